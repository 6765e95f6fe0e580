-- How many sheets a run has, counted sheet by sheet.
use Prim.Native.Nat.{ℕ, zero, suc, ◌+◌, ◌-◌, ◌≤◌, ◌<◌}
use native.Mathlib.Omega.{arith}
use mathlib.Core.Path.{◌≡◌, refl, ap, subst, ◌∙◌}
use mathlib.Core.Bool.{Bool, true, false, ◌&&◌}
use lib.Dec.{leb, ltb}
use borrow.Author.Tests.{lt-ltb, le-ltb, le-leb, lt-leb}
use Rattle.lists.specs.Lists.{count_below}
use Rattle.lists.proofs.Counting.{count_zero, count_next, count_past}

unfoldable pub in_run : ℕ → ℕ → ℕ → Bool
in_run f c s = leb f s && ltb s (f + c)

module _ (f c : ℕ) where
  out_low : (s : ℕ) → s < f → in_run f c s ≡ false
  unfolding in_run
  out_low s h = rw (lt-leb f s h) refl

  out_high : (s : ℕ) → f + c ≤ s → in_run f c s ≡ false
  unfolding in_run
  out_high s h = rw (le-leb f s (omega arith), le-ltb s (f + c) h) refl

  pub in_run_lem : (s : ℕ) → f ≤ s → s < f + c → in_run f c s ≡ true
  unfolding in_run
  in_run_lem s a b = rw (le-leb f s a, lt-ltb s (f + c) b) refl

  before : (n : ℕ) → n ≤ f → count_below n (in_run f c) ≡ 0
  before zero h = count_zero (in_run f c)
  before (suc n) h = count_past n (in_run f c) (out_low n (omega arith)) ∙ before n (omega arith)

  within : (n : ℕ) → n ≤ c → count_below (f + n) (in_run f c) ≡ n
  within zero h = let z : f + 0 ≡ f = omega arith in rw z (before f (omega arith))
  within (suc n) h =
      let z : f + suc n ≡ suc (f + n) = omega arith in
      rw z (count_next (f + n) (in_run f c) (in_run_lem (f + n) (omega arith) (omega arith)) ∙ ap suc (within n (omega arith)))

  behind : (n : ℕ) → count_below (f + c + n) (in_run f c) ≡ c
  behind zero = let z : f + c + 0 ≡ f + c = omega arith in rw z (within c (omega arith))
  behind (suc n) = let z : f + c + suc n ≡ suc (f + c + n) = omega arith in rw z (count_past (f + c + n) (in_run f c) (out_high (f + c + n) (omega arith)) ∙ behind n)

  pub run_count : (n : ℕ) → f + c ≤ n → count_below n (in_run f c) ≡ c
  run_count n h = let z : f + c + (n - (f + c)) ≡ n = omega arith in subst (λ (m : ℕ). count_below m (in_run f c) ≡ c) z (behind (n - (f + c)))
