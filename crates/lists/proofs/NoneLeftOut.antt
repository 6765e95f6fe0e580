-- As many different numbers below m as there are leave none out.
use Prim.Native.Nat.{ℕ, suc, ◌≤◌, ◌<◌}
use native.Mathlib.Omega.{arith}
use mathlib.Core.Path.{◌≡◌, sym, ◌∙◌}
use mathlib.Core.Bool.{true, false, cond}
use lib.Dec.{eqb}
use borrow.Author.Tests.{eqb-true, eqb-false}
use Rattle.lists.proofs.Tests.{Case, pass, fail, case}
use Rattle.lists.proofs.Pigeonhole.{pigeonhole}

-- m different numbers below m leave none out: with x they would be one more than there are
pub none_left_out : (m : ℕ) (f : ℕ → ℕ) → ((i : ℕ) → i < m → f i < m) → ((i j : ℕ) → i < m → j < m → f i ≡ f j → i ≡ j)
    → (x : ℕ) → x < m → ((i : ℕ) → i < m → f i ≡ x → ⊥) → ⊥
none_left_out m f low one x b out = let z : suc m ≤ m = pigeonhole m (suc m) with_x with_x_low with_x_one in omega arith
  where
    with_x : ℕ → ℕ
    with_x i = cond (eqb i m) x (f i)

    at_x : (i : ℕ) → eqb i m ≡ true → with_x i ≡ x
    at_x i e = rw e

    at_f : (i : ℕ) → eqb i m ≡ false → with_x i ≡ f i
    at_f i e = rw e

    below_m : (i : ℕ) → i < suc m → eqb i m ≡ false → i < m
    below_m i h e = let ne : i ≡ m → ⊥ = eqb-false i m e in omega arith

    with_x_low : (i : ℕ) → i < suc m → with_x i < m
    with_x_low i h = go (case (eqb i m))
      where
        go : Case (eqb i m) → with_x i < m
        go (pass e) = rw (at_x i e) b
        go (fail e) = rw (at_f i e) (low i (below_m i h e))

    with_x_one : (i j : ℕ) → i < suc m → j < suc m → with_x i ≡ with_x j → i ≡ j
    with_x_one i j h k q = go (case (eqb i m)) (case (eqb j m))
      where
        go : Case (eqb i m) → Case (eqb j m) → i ≡ j
        go (pass e) (pass d) = eqb-true i m e ∙ sym (eqb-true j m d)
        go (fail e) (fail d) = one i j (below_m i h e) (below_m j k d) (sym (at_f i e) ∙ q ∙ at_f j d)
        go (pass e) (fail d) = absurd (out j (below_m j k d) (sym (at_f j d) ∙ sym q ∙ at_x i e))
        go (fail e) (pass d) = absurd (out i (below_m i h e) (sym (at_f i e) ∙ q ∙ at_x j d))
