-- What `array::from_fn` makes with a function that gives at each place what is wanted there.
use Prim.Native.Nat.{ℕ, zero, suc, ◌+◌, ◌≤◌, ◌<◌}
use native.Mathlib.Omega.{arith}
use mathlib.Core.Path.{◌≡◌, subst, ◌∙◌}
use mathlib.Core.List.{List}
use lib.Dec.{eqb}
use lib.ListN.{get_or}
use borrow.Author.Tests.{eqb-true, eqb-false}
use Rattle.std.specs.Fn.{Mut, Called}
use Rattle.std.specs.Array.{IsFromFnResultFrom, IsFromFnResult}
use Rattle.lists.specs.Parts.{tabulate}
use Rattle.lists.proofs.Tests.{pass, fail, case}
use Rattle.lists.proofs.PartLaws.{tabulated}

module _ {F : Type 0} (g : Mut F (ℕ × Unit {0}) ℕ) (f : F) (ys : List ℕ) (n : ℕ) (want : ℕ → ℕ)
    (gives : (i r : ℕ) (f' : F) → i < n → Called g f (i, tt) r f' → (f' ≡ f) × (r ≡ want i)) where
  from_there : (m i : ℕ) → i + m ≡ n → IsFromFnResultFrom g f ys i m → (p : ℕ) → i ≤ p → p < n → get_or ys p 0 ≡ want p
  from_there zero i e each p low high = absurd (omega arith)
  from_there (suc m) i e (f', r, here, called, each) p low high =
      let now = gives i r f' (omega arith) called in
      let later : IsFromFnResultFrom g f ys (i + 1) m = subst (λ (q : F). IsFromFnResultFrom g q ys (i + 1) m) now.0 each in
      elim (case (eqb p i)) [
        | pass s ↦ rw (eqb-true p i s) (here.1 0 ∙ now.1)
        | fail s ↦ from_there m (i + 1) (omega arith) later p (omega (arith, eqb-false p i s)) high
      ]

  pub made : IsFromFnResult g f ys n → ys ≡ tabulate n want
  made result = tabulated 0 n n want ys (omega arith) (record { long = result.long; same = λ p h. from_there n 0 (omega arith) result.each p (omega arith) h })
