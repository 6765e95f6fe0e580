-- A list that grows at its end, and the same list kept with the latest element first: in order it is `turned`. What is counted and found in it
-- when one more comes, and places that it fills one after the other.
use Prim.Native.Nat.{ℕ, zero, suc, ◌+◌, ◌<◌}
use native.Mathlib.Omega.{arith}
use mathlib.Core.Path.{◌≡◌, refl, sym, ap, ◌∙◌}
use mathlib.Core.Bool.{Bool, true, false, cond}
use mathlib.Core.List.{List, [], ◌∷◌, ◌++◌, append_assoc, append-nil}
use lib.Dec.{eqb}
use lib.ListN.{length, get_or, set}
use lib.Seq.{get_or-set_same, get_or-set_other, get_or-append_seam}
use borrow.Author.Tests.{eqb-true, eqb-false}
use Rattle.lists.specs.Lists.{first_index, some, keep, count_of, filled}
use Rattle.lists.proofs.Tests.{Case, pass, fail, case, or_false_l, or_false_r}
use Rattle.lists.proofs.MemberLaws.{keep_append}
use Rattle.lists.proofs.Counts.{count_joined}

module _ {A : Type 0} where
  -- the elements of `before`, the latest first, in order, and those behind them
  unfoldable pub turned : List A → List A → List A
  turned [] later = later
  turned (x ∷ before) later = turned before (x ∷ later)

  pub turned_front : (before later : List A) → turned before later ≡ turned before [] ++ later
  unfolding turned
  turned_front [] later = refl
  turned_front (x ∷ before) later =
      turned_front before (x ∷ later) ∙ sym (ap (λ (l : List A). l ++ later) (turned_front before (x ∷ [])) ∙ append_assoc (turned before []) (x ∷ []) later)

  -- one more
  pub turned_more : (x : A) (before : List A) → turned (x ∷ before) [] ≡ turned before [] ++ x ∷ []
  unfolding turned
  turned_more x before = turned_front before (x ∷ [])

  -- ---- kept
  pub one_kept : (test : A → Bool) (x : A) (xs : List A) → test x ≡ true → keep test (xs ++ x ∷ []) ≡ keep test xs ++ x ∷ []
  unfolding keep
  one_kept test x xs e = keep_append test xs (x ∷ []) ∙ ap (λ (b : Bool). keep test xs ++ cond b (x ∷ []) []) e

  pub none_kept : (test : A → Bool) (x : A) (xs : List A) → test x ≡ false → keep test (xs ++ x ∷ []) ≡ keep test xs
  unfolding keep
  none_kept test x xs e = keep_append test xs (x ∷ []) ∙ ap (λ (b : Bool). keep test xs ++ cond b (x ∷ []) []) e ∙ append-nil (keep test xs)

  -- ---- counted
  pub count_turned : (test : A → Bool) (before : List A) → count_of test (turned before []) ≡ count_of test before
  unfolding turned count_of
  count_turned test [] = refl
  count_turned test (x ∷ before) = go (count_turned test before) (case (test x))
    where
      go : count_of test (turned before []) ≡ count_of test before → Case (test x)
          → count_of test (turned (x ∷ before) []) ≡ cond (test x) (suc (count_of test before)) (count_of test before)
      go h e = ap (count_of test) (turned_more x before) ∙ count_joined test (turned before []) (x ∷ []) ∙ more e
        where
          more : Case (test x) → count_of test (turned before []) + cond (test x) 1 0 ≡ cond (test x) (suc (count_of test before)) (count_of test before)
          more (pass t) = rw t (omega (arith, h))
          more (fail t) = rw t (omega (arith, h))

  -- ---- found
  pub found_as_before : (test : A → Bool) (d x : A) (xs : List A) → test x ≡ false
      → get_or (xs ++ x ∷ []) (first_index test (xs ++ x ∷ [])) d ≡ get_or xs (first_index test xs) d
  unfolding first_index
  found_as_before test d x [] e = rw e
  found_as_before test d x (y ∷ ys) e = go (found_as_before test d x ys e) (case (test y))
    where
      go : get_or (ys ++ x ∷ []) (first_index test (ys ++ x ∷ [])) d ≡ get_or ys (first_index test ys) d → Case (test y)
          → get_or (y ∷ ys ++ x ∷ []) (cond (test y) 0 (suc (first_index test (ys ++ x ∷ [])))) d ≡ get_or (y ∷ ys) (cond (test y) 0 (suc (first_index test ys))) d
      go h (pass t) = rw t
      go h (fail t) = rw t h

  pub found_new : (test : A → Bool) (d x : A) (xs : List A) → some test xs ≡ false → test x ≡ true
      → get_or (xs ++ x ∷ []) (first_index test (xs ++ x ∷ [])) d ≡ x
  unfolding first_index some
  found_new test d x [] none e = rw e
  found_new test d x (y ∷ ys) none e =
      rw (or_false_l (test y) (some test ys) none) (found_new test d x ys (or_false_r (test y) (some test ys) none) e)

  -- ---- places filled
  pub filled_at : (n : ℕ) (d : A) (xs : List A) (i : ℕ) → i < n → get_or (filled n d xs) i d ≡ get_or xs i d
  unfolding filled
  filled_at zero d xs i b = absurd (omega arith)
  filled_at (suc n) d [] zero b = refl
  filled_at (suc n) d [] (suc i) b = filled_at n d [] i (omega arith)
  filled_at (suc n) d (x ∷ xs) zero b = refl
  filled_at (suc n) d (x ∷ xs) (suc i) b = filled_at n d xs i (omega arith)

  beside_end : (d x : A) (xs : List A) (i : ℕ) → (i ≡ length xs → ⊥) → get_or (xs ++ x ∷ []) i d ≡ get_or xs i d
  beside_end d x [] zero ne = absurd (ne refl)
  beside_end d x [] (suc i) ne = refl
  beside_end d x (y ∷ ys) zero ne = refl
  beside_end d x (y ∷ ys) (suc i) ne = beside_end d x ys i (λ e. ne (ap suc e))

  -- the next of the places from `start` on is filled
  pub next_filled : (d x : A) (l xs : List A) (start i at place : ℕ) → at ≡ start + i → place ≡ start + length xs → place < length l
      → get_or l at d ≡ get_or xs i d → get_or (set l place x) at d ≡ get_or (xs ++ x ∷ []) i d
  next_filled d x l xs start i at place here there low h = go (case (eqb i (length xs)))
    where
      go : Case (eqb i (length xs)) → get_or (set l place x) at d ≡ get_or (xs ++ x ∷ []) i d
      go (pass e) =
          let z : i ≡ length xs = eqb-true i (length xs) e in
          let y : at ≡ place = omega (arith, z, here, there) in
          ap (λ (j : ℕ). get_or (set l place x) j d) y ∙ get_or-set_same l place x d low
          ∙ sym (ap (λ (j : ℕ). get_or (xs ++ x ∷ []) j d) z ∙ get_or-append_seam xs x [] d)
      go (fail e) =
          let ne : i ≡ length xs → ⊥ = eqb-false i (length xs) e in
          get_or-set_other l place at x d (λ z. ne (omega (arith, z, here, there))) ∙ h ∙ sym (beside_end d x xs i ne)
