-- The smallest of the free runs that begin below a sheet: what is found, and one sheet more.
use Prim.Native.Nat.{ℕ, zero, suc, ◌+◌, ◌≤◌, ◌<◌}
use native.Mathlib.Omega.{arith}
use mathlib.Core.Path.{◌≡◌, refl, ap, ◌∙◌}
use mathlib.Core.Bool.{Bool, false, ◌&&◌, cond}
use lib.Dec.{leb, ltb}
use borrow.Author.Tests.{leb-true, leb-false, lt-leb, ltb-true, ltb-false}
use Rattle.lists.proofs.Tests.{Case, pass, fail, case}
use Rattle.lists.proofs.Loops.{so_far}
use Rattle.best_fit.specs.declared.Run.{Run}
use Rattle.best_fit.specs.BestFit.{run_at, smallest_below}
use Rattle.best_fit.proofs.FreeRuns.{run_most}

module _ (free : ℕ → ℕ → Bool) (count : ℕ) where
  -- ---- one sheet more
  pub smallest_next : (n : ℕ) → smallest_below free count (suc n)
      ≡ cond (leb count (run_at free n) && ltb (run_at free n) (smallest_below free count n).count)
      (record { first = n; count = run_at free n }) (smallest_below free count n)
  unfolding smallest_below
  smallest_next n = refl

  pub smallest_none : smallest_below free count 0 ≡ record { first = 256; count = 257 }
  unfolding smallest_below
  smallest_none = refl

  -- sheets at which no run begins
  pub smallest_past : 1 ≤ count → (n more : ℕ) → ((m : ℕ) → n ≤ m → m < more + n → run_at free m ≡ 0)
      → smallest_below free count (more + n) ≡ smallest_below free count n
  smallest_past one n zero none = ap (smallest_below free count) (omega arith)
  smallest_past one n (suc more) none =
      let short : leb count (run_at free (more + n)) ≡ false = lt-leb count (run_at free (more + n)) (omega (arith, none (more + n) (omega arith) (omega arith))) in
      ap (smallest_below free count) (omega arith) ∙ smallest_next (more + n)
      ∙ ap
      (λ (b : Bool).
      cond (b && ltb (run_at free (more + n)) (smallest_below free count (more + n)).count) (record { first = more + n; count = run_at free (more + n) })
      (smallest_below free count (more + n)))
      short
      ∙ smallest_past one n more (λ m a b. none m a (omega arith))

  -- ---- what is found
  pub record Found (n : ℕ) (run : Run) : Type 0 where
    pub low : run.first < n
    pub is : run_at free run.first ≡ run.count
    pub enough : count ≤ run.count
    pub smallest : (m : ℕ) → m < n → count ≤ run_at free m → run.count ≤ run_at free m
    pub lowest : (m : ℕ) → m < n → run_at free m ≡ run.count → run.first ≤ m

  pub record Nowhere (n : ℕ) (run : Run) : Type 0 where
    pub first : run.first ≡ 256
    pub size : run.count ≡ 257
    pub short : (m : ℕ) → m < n → run_at free m < count

  pub data Sought (n : ℕ) (run : Run) : Type 0 where
    found : Found n run → Sought n run
    nowhere : Nowhere n run → Sought n run

  -- what holds of the sheets below n and of n
  upto : (P : ℕ → Type 0) (n : ℕ) → ((m : ℕ) → m < n → P m) → P n → (m : ℕ) → m < suc n → P m
  upto P n below here m b = so_far {P = P} n below here m (omega arith)

  module _ (n : ℕ) (lower : Run) where
    too_short : run_at free n < count → Sought n lower → Sought (suc n) lower
    too_short h (nowhere o) = nowhere (record { first = o.first; size = o.size; short = upto _ n o.short h })
    too_short h (found f) = found (record {
      low = omega (arith, f.low);
      is = f.is;
      enough = f.enough;
      smallest = upto _ n f.smallest (λ c. absurd (omega arith));
      lowest = upto _ n f.lowest (λ e. absurd (omega (arith, e, f.enough)));
    })

    not_smaller : lower.count ≤ run_at free n → Sought n lower → Sought (suc n) lower
    not_smaller h (nowhere o) = absurd (omega (arith, h, o.size, run_most free n))
    not_smaller h (found f) = found (record {
      low = omega (arith, f.low);
      is = f.is;
      enough = f.enough;
      smallest = upto _ n f.smallest (λ c. h);
      lowest = upto _ n f.lowest (λ e. omega (arith, f.low));
    })

    smaller : count ≤ run_at free n → run_at free n < lower.count → Sought n lower → Sought (suc n) (record { first = n; count = run_at free n })
    smaller c h s = found (record {
      low = omega arith;
      is = refl;
      enough = c;
      smallest = upto _ n (λ m b d. most s m b d) (λ d. omega arith);
      lowest = upto _ n (λ m b e. other s m b e) (λ e. omega arith);
    })
      where
        most : Sought n lower → (m : ℕ) → m < n → count ≤ run_at free m → run_at free n ≤ run_at free m
        most (nowhere o) m b d = absurd (omega (arith, o.short m b, d))
        most (found f) m b d = omega (arith, f.smallest m b d, h)

        other : Sought n lower → (m : ℕ) → m < n → run_at free m ≡ run_at free n → n ≤ m
        other (nowhere o) m b e = absurd (omega (arith, o.short m b, e, c))
        other (found f) m b e = absurd (let d = f.smallest m b (omega (arith, e, c)) in omega (arith, d, e, h))

  pub sought : (n : ℕ) → Sought n (smallest_below free count n)
  unfolding smallest_below
  sought zero = nowhere (record { first = refl; size = refl; short = λ m b. absurd (omega arith) })
  sought (suc n) = go (case (leb count (run_at free n))) (case (ltb (run_at free n) (smallest_below free count n).count)) (sought n)
    where
      go : Case (leb count (run_at free n)) → Case (ltb (run_at free n) (smallest_below free count n).count) → Sought n (smallest_below free count n)
          → Sought (suc n)
          (cond (leb count (run_at free n) && ltb (run_at free n) (smallest_below free count n).count)
          (record { first = n; count = run_at free n }) (smallest_below free count n))
      go (fail a) b s = rw a (too_short n _ (leb-false count (run_at free n) a) s)
      go (pass a) (fail b) s = rw (a, b) (not_smaller n _ (ltb-false (run_at free n) _ b) s)
      go (pass a) (pass b) s = rw (a, b) (smaller n _ (leb-true count (run_at free n) a) (ltb-true (run_at free n) _ b) s)
