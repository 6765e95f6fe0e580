-- Places filled from a list: their number, what stands in them, what is found in them again.
use Prim.Native.Nat.{ℕ, zero, suc, ◌≤◌}
use native.Mathlib.Omega.{arith}
use mathlib.Core.Path.{◌≡◌, refl, ap}
use mathlib.Core.Logic.{◌⊎◌, inl, inr, ⊎_elim}
use mathlib.Core.Bool.{Bool, true, false}
use mathlib.Core.List.{List, [], ◌∷◌}
use lib.ListN.{length}
use Rattle.lists.specs.Lists.{all, keep, filled}
use Rattle.lists.specs.Members.{In, first, later}
use Rattle.lists.proofs.Tests.{and_l, and_r}

pub filled_long : {A : Type 0} (n : ℕ) (d : A) (xs : List A) → length (filled n d xs) ≡ n
unfolding filled
filled_long zero d xs = refl
filled_long (suc n) d [] = ap suc (filled_long n d [])
filled_long (suc n) d (x ∷ xs) = ap suc (filled_long n d xs)

-- ---- what is filled into places is found there again
none_live : {A : Type 0} (live : A → Bool) (spare : A) → live spare ≡ false → (n : ℕ) → keep live (filled n spare []) ≡ []
unfolding keep filled
none_live live spare e zero = refl
none_live live spare e (suc n) = rw e (none_live live spare e n)

pub filled_back : {A : Type 0} (live : A → Bool) (spare : A) → live spare ≡ false → (n : ℕ) (xs : List A) → length xs ≤ n → all live xs ≡ true
    → keep live (filled n spare xs) ≡ xs
unfolding keep filled all
filled_back live spare e n [] h a = none_live live spare e n
filled_back live spare e zero (x ∷ xs) h a = absurd (omega arith)
filled_back live spare e (suc n) (x ∷ xs) h a =
    rw (and_l (live x) (all live xs) a)
    (ap (λ (l : List _). x ∷ l) (filled_back live spare e n xs (omega (arith, h)) (and_r (live x) (all live xs) a)))

pub all_filled : {A : Type 0} (test : A → Bool) (n : ℕ) (d : A) (xs : List A) → length xs ≤ n → all test (filled n d xs) ≡ true → all test xs ≡ true
unfolding all filled
all_filled test n d [] h e = refl
all_filled test zero d (x ∷ xs) h e = absurd (omega arith)
all_filled test (suc n) d (x ∷ xs) h e =
    rw (and_l (test x) (all test (filled n d xs)) e) (all_filled test n d xs (omega (arith, h)) (and_r (test x) (all test (filled n d xs)) e))

-- ---- members
module _ {A : Type 0} where
  pub filled_out : (n : ℕ) (d : A) (xs : List A) (z : A) → In z (filled n d xs) → (z ≡ d) ⊎ In z xs
  unfolding filled
  filled_out (suc n) d [] z (first e) = inl e
  filled_out (suc n) d [] z (later m) = filled_out n d [] z m
  filled_out (suc n) d (x ∷ xs) z (first e) = inr (first e)
  filled_out (suc n) d (x ∷ xs) z (later m) = ⊎_elim inl (λ i. inr (later i)) (filled_out n d xs z m)
  filled_out zero d xs z x' = elim x' [ ]

  pub filled_in : (n : ℕ) (d : A) (xs : List A) → length xs ≤ n → (z : A) → In z xs → In z (filled n d xs)
  unfolding filled
  filled_in zero d (x ∷ xs) b z m = absurd (omega arith)
  filled_in (suc n) d (x ∷ xs) b z (first e) = first e
  filled_in (suc n) d (x ∷ xs) b z (later m) = later (filled_in n d xs (omega (arith, b)) z m)
  filled_in zero d [] b z m = elim m [ ]
  filled_in (suc n) d [] b z m = elim m [ ]
