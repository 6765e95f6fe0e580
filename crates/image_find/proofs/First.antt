-- Where a search ends: at the first element that passes, or behind the last.
use Prim.Native.Nat.{ℕ, zero, suc, ◌≤◌, ◌<◌}
use native.Mathlib.Omega.{arith}
use mathlib.Core.Path.{◌≡◌, sym, ap, ◌∙◌}
use mathlib.Core.Bool.{Bool, true, false}
use mathlib.Core.List.{List, [], ◌∷◌}
use lib.ListN.{length, get_or}
use Rattle.lists.specs.Lists.{first_index}
use Rattle.lists.proofs.Search.{first_here, first_later}

module _ {A : Type 0} (f : A → Bool) (d : A) where
  pub first_is : (l : List A) (i : ℕ) → i ≤ length l → ((j : ℕ) → j < i → f (get_or l j d) ≡ false) → (i < length l → f (get_or l i d) ≡ true) → i ≡ first_index f l
  unfolding first_index
  first_is [] i low before there = omega arith
  first_is (x ∷ l) zero low before there = sym (first_here f x l (there (omega arith)))
  first_is (x ∷ l) (suc i) low before there =
      ap suc (first_is l i (omega arith) (λ j h. before (suc j) (omega arith)) (λ h. there (omega arith)))
      ∙ sym (first_later f x l (before 0 (omega arith)))
