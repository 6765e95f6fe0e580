-- The pigeonhole: no injection from n numbers into fewer. By induction on the fewer: the value that would be the last is replaced by
-- the value of the last number, which leaves an injection of one number less into one value less.
use Prim.Native.Nat.{ℕ, zero, suc, ◌≤◌, ◌<◌}
use native.Mathlib.Omega.{arith}
use native.Mathlib.Nat.{not-suc-le-zero}
use mathlib.Core.Path.{◌≡◌, sym, ◌∙◌}
use mathlib.Core.Bool.{true, false, cond}
use lib.Dec.{eqb}
use borrow.Author.Tests.{eqb-true, eqb-false}
use Rattle.lists.proofs.Tests.{Case, pass, fail, case}

-- f with the value m replaced by v
moved : (ℕ → ℕ) → ℕ → ℕ → ℕ → ℕ
moved f m v i = cond (eqb (f i) m) v (f i)

moved_hit : (f : ℕ → ℕ) (m v i : ℕ) → eqb (f i) m ≡ true → moved f m v i ≡ v
unfolding moved
moved_hit f m v i e = rw e

moved_miss : (f : ℕ → ℕ) (m v i : ℕ) → eqb (f i) m ≡ false → moved f m v i ≡ f i
unfolding moved
moved_miss f m v i e = rw e

pub pigeonhole : (m n : ℕ) (f : ℕ → ℕ) → ((i : ℕ) → i < n → f i < m) → ((i j : ℕ) → i < n → j < n → f i ≡ f j → i ≡ j) → n ≤ m
pigeonhole zero zero f b inj = omega arith
pigeonhole zero (suc n) f b inj = absurd (not-suc-le-zero (b 0 (omega arith)))
pigeonhole (suc m) zero f b inj = omega arith
pigeonhole (suc m) (suc n) f b inj = omega (arith, pigeonhole m n (moved f m (f n)) low one)
  where
    low : (i : ℕ) → i < n → moved f m (f n) i < m
    low i h = go (case (eqb (f i) m))
      where
        go : Case (eqb (f i) m) → moved f m (f n) i < m
        go (pass e) =
            let d : f n ≡ m → ⊥ = λ q. (let z : i ≡ n = inj i n (omega arith) (omega arith) (eqb-true (f i) m e ∙ sym q) in omega arith) in
            let c : f n < suc m = b n (omega arith) in
            rw (moved_hit f m (f n) i e) (omega arith)
        go (fail e) =
            let d : f i ≡ m → ⊥ = eqb-false (f i) m e in
            let c : f i < suc m = b i (omega arith) in
            rw (moved_miss f m (f n) i e) (omega arith)

    one : (i j : ℕ) → i < n → j < n → moved f m (f n) i ≡ moved f m (f n) j → i ≡ j
    one i j h k q = go (case (eqb (f i) m)) (case (eqb (f j) m))
      where
        go : Case (eqb (f i) m) → Case (eqb (f j) m) → i ≡ j
        go (pass e) (pass d) = inj i j (omega arith) (omega arith) (eqb-true (f i) m e ∙ sym (eqb-true (f j) m d))
        go (fail e) (fail d) = inj i j (omega arith) (omega arith) (sym (moved_miss f m (f n) i e) ∙ q ∙ moved_miss f m (f n) j d)
        go (pass e) (fail d) =
            let z : n ≡ j = inj n j (omega arith) (omega arith) (sym (moved_hit f m (f n) i e) ∙ q ∙ moved_miss f m (f n) j d) in omega arith
        go (fail e) (pass d) =
            let z : i ≡ n = inj i n (omega arith) (omega arith) (sym (moved_miss f m (f n) i e) ∙ q ∙ moved_hit f m (f n) j d) in omega arith
