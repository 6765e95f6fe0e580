-- A test at every number below n, and the law that takes the test's computed value to each number. A table's rule is checked by
-- computing the test once, and used at any number by the law.
use Prim.Native.Nat.{ℕ, zero, suc, ◌<◌}
use native.Mathlib.Nat.{eq-or-lt_of_le, le_of_suc-le-suc, not-suc-le-zero}
use mathlib.Core.Path.{◌≡◌, refl, sym, subst}
use mathlib.Core.Logic.{⊎_elim}
use mathlib.Core.Bool.{Bool, true, false, beq, cond}

abbrev pub below : ℕ → (ℕ → Bool) → Bool
below zero test = true
below (suc n) test = cond (test n) (below n test) false

beq_eq : (a b : Bool) → beq a b ≡ true → a ≡ b
beq_eq true true e = refl
beq_eq true false e = sym e
beq_eq false true e = e
beq_eq false false e = refl

both_left : (a b : Bool) → cond a b false ≡ true → a ≡ true
both_left true b e = refl
both_left false b e = e

both_right : (a b : Bool) → cond a b false ≡ true → b ≡ true
both_right true b e = e
both_right false true e = refl
both_right false false e = e

pub below_at : (n : ℕ) (test : ℕ → Bool) → below n test ≡ true → (k : ℕ) → k < n → test k ≡ true
below_at zero test e k h = absurd (not-suc-le-zero h)
below_at (suc n) test e k h =
    ⊎_elim
    (λ q. subst (λ (j : ℕ). test j ≡ true) (sym q) (both_left (test n) (below n test) e))
    (λ l. below_at n test (both_right (test n) (below n test) e) k l)
    (eq-or-lt_of_le (le_of_suc-le-suc h))

-- The same for two tests of two numbers, which agree at all pairs below m and n.
abbrev agree : (one other : ℕ → ℕ → Bool) → ℕ → ℕ → Bool
agree one other a b = beq (one a b) (other a b)

abbrev pub agree_below : (m n : ℕ) (one other : ℕ → ℕ → Bool) → Bool
agree_below m n one other = below m (λ a. below n (agree one other a))

pub agree_at : (m n : ℕ) (one other : ℕ → ℕ → Bool) → agree_below m n one other ≡ true → (a b : ℕ) → a < m → b < n → one a b ≡ other a b
agree_at m n one other e a b p q =
    let row = below_at m (λ k. below n (agree one other k)) e a p in
    beq_eq (one a b) (other a b) (below_at n (agree one other a) row b q)
