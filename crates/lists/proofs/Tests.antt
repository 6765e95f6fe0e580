-- Laws of tests that are Bools: the two cases of a test with their equation, and how a test of several parts is put together and taken
-- apart. Proofs work with equations `b ≡ true`.
use Prim.Native.Nat.{ℕ, ◌≤◌}
use mathlib.Core.Path.{◌≡◌, refl, sym, ◌∙◌, subst}
use mathlib.Core.Bool.{Bool, true, false, not, ◌&&◌, ◌||◌, cond}
use lib.Dec.{leb}
use borrow.Author.Tests.{leb-true, le-leb, not-true, not-false}
use Rattle.lists.specs.Tests.{implies, between}

-- a test's two cases, with the equation
pub data Case (b : Bool) : Type 0 where
  pass : b ≡ true → Case b
  fail : b ≡ false → Case b

pub case : (b : Bool) → Case b
case true = pass refl
case false = fail refl

pub no_true : {A : Type 0} → false ≡ true → A
no_true {A} z = absurd (subst (λ (b : Bool). cond b ⊥ (Unit {0})) z tt)

pub contradiction : {A : Type 0} {b : Bool} → b ≡ true → b ≡ false → A
contradiction p q = no_true (sym q ∙ p)

-- a test that cannot pass fails, and one that cannot fail passes
pub cannot_pass : (b : Bool) → (b ≡ true → ⊥) → b ≡ false
cannot_pass true ne = absurd (ne refl)
cannot_pass false ne = refl

pub cannot_fail : (b : Bool) → (b ≡ false → ⊥) → b ≡ true
cannot_fail true ne = refl
cannot_fail false ne = absurd (ne refl)

-- a test that passes only where another does
pub not_pass : {a b : Bool} → (a ≡ true → b ≡ true) → b ≡ false → a ≡ false
not_pass {a = true} {b} h e = sym (h refl) ∙ e
not_pass {a = false} {b} h e = refl

-- a guard `if !f(..)`, by what f ensures: where it is left the test passed, where it is taken it failed
pub passed : {r b : Bool} → r ≡ b → not r ≡ false → b ≡ true
passed {r} e left = sym e ∙ not-false r left

pub failed : {r b : Bool} → r ≡ b → not r ≡ true → b ≡ false
failed {r} e taken = sym e ∙ not-true r taken

-- tests that pass together are equal
pub both_ways : (a b : Bool) → (a ≡ true → b ≡ true) → (b ≡ true → a ≡ true) → a ≡ b
both_ways true b f g = sym (f refl)
both_ways false true f g = g refl
both_ways false false f g = refl

-- ---- and, or, not
pub and_l : (a b : Bool) → (a && b) ≡ true → a ≡ true
and_l true b e = refl
and_l false b e = e

pub and_r : (a b : Bool) → (a && b) ≡ true → b ≡ true
and_r true b e = e
and_r false b e = no_true e

pub and_intro : {a b : Bool} → a ≡ true → b ≡ true → (a && b) ≡ true
and_intro {a} {b} p q = rw p q

pub and_false : (a : Bool) → (a && false) ≡ false
and_false true = refl
and_false false = refl

pub or_right : (a : Bool) {b : Bool} → b ≡ true → (a || b) ≡ true
or_right true e = refl
or_right false e = e

pub or_left : {a : Bool} (b : Bool) → a ≡ true → (a || b) ≡ true
or_left {a} b e = rw e

pub or_false_l : (a b : Bool) → (a || b) ≡ false → a ≡ false
or_false_l true b e = e
or_false_l false b e = refl

pub or_false_r : (a b : Bool) → (a || b) ≡ false → b ≡ false
or_false_r true b e = no_true (sym e)
or_false_r false b e = e

pub not_test : (b : Bool) → b ≡ false → not b ≡ true
not_test b e = rw e

-- ---- implies
pub implies_intro : (a b : Bool) → (a ≡ true → b ≡ true) → implies a b ≡ true
unfolding implies
implies_intro true b h = h refl
implies_intro false b h = refl

pub implies_elim : (a b : Bool) → implies a b ≡ true → a ≡ true → b ≡ true
unfolding implies
implies_elim true b e h = e
implies_elim false b e h = no_true h

-- ---- between two bounds
module _ (low high x : ℕ) where
  pub between_low : between low high x ≡ true → low ≤ x
  unfolding between
  between_low e = leb-true low x (and_l (leb low x) (leb x high) e)

  pub between_high : between low high x ≡ true → x ≤ high
  unfolding between
  between_high e = leb-true x high (and_r (leb low x) (leb x high) e)

  pub between_test : low ≤ x → x ≤ high → between low high x ≡ true
  unfolding between
  between_test p q = and_intro (le-leb low x p) (le-leb x high q)
