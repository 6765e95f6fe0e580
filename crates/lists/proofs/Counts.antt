-- Counts and lengths: of the elements that pass, of joined parts, of sorted lists.
use Prim.Native.Nat.{ℕ, suc, ◌+◌, ◌*◌, ◌≤◌}
use native.Mathlib.Omega.{arith}
use native.Mathlib.Nat.{mul-suc}
use mathlib.Core.Path.{◌≡◌, refl, sym, ap, subst}
use mathlib.Core.Bool.{Bool, true, cond}
use mathlib.Core.List.{List, [], ◌∷◌, ◌++◌, flat_map}
use lib.Dec.{leb, eqb}
use lib.ListN.{length, length-append}
use borrow.Author.Tests.{eqb-true, eqb-false}
use Rattle.lists.specs.Lists.{keep, count_of, put_into, sorted_by}
use Rattle.lists.specs.Members.{In, first, later, Once, more}
use Rattle.lists.proofs.Tests.{Case, pass, fail, case, cannot_pass}
use Rattle.lists.proofs.Counting.{count_none}

-- ---- counts
module _ {A : Type 0} (test : A → Bool) where
  pub count_joined : (a b : List A) → count_of test (a ++ b) ≡ count_of test a + count_of test b
  unfolding count_of
  count_joined [] b = omega arith
  count_joined (x ∷ xs) b = go (count_joined xs b) (case (test x))
    where
      go : count_of test (xs ++ b) ≡ count_of test xs + count_of test b → Case (test x)
          → cond (test x) (suc (count_of test (xs ++ b))) (count_of test (xs ++ b)) ≡ cond (test x) (suc (count_of test xs)) (count_of test xs) + count_of test b
      go h (pass t) = rw t (omega (arith, h))
      go h (fail t) = rw t h

  pub count_most : (l : List A) → count_of test l ≤ length l
  unfolding count_of
  count_most [] = omega arith
  count_most (x ∷ xs) = go (count_most xs) (case (test x))
    where
      go : count_of test xs ≤ length xs → Case (test x) → cond (test x) (suc (count_of test xs)) (count_of test xs) ≤ suc (length xs)
      go h (pass t) = rw t (omega (arith, h))
      go h (fail t) = rw t (omega (arith, h))

  none_else : (f : ℕ → List A) (is : List ℕ) (c : ℕ) → (In c is → ⊥)
      → ((i : ℕ) (x : A) → In i is → In x (f i) → test x ≡ true → i ≡ c) → count_of test (flat_map f is) ≡ 0
  unfolding flat_map count_of
  none_else f [] c out tell = refl
  none_else f (i ∷ is) c out tell =
      let z : count_of test (f i) ≡ 0 = count_none test (f i) (λ x m. cannot_pass (test x) (λ t. out (first (sym (tell i x (first refl) m t))))) in
      let y : count_of test (flat_map f is) ≡ 0 = none_else f is c (λ m. out (later m)) (λ j x m. tell j x (later m)) in
      omega (arith, count_joined (f i) (flat_map f is), z, y)

  -- where only part c has such elements
  pub count_part : (f : ℕ → List A) (is : List ℕ) → Once is → (c n : ℕ) → ((i : ℕ) → In i is → count_of test (f i) ≤ n)
      → ((i : ℕ) (x : A) → In i is → In x (f i) → test x ≡ true → i ≡ c) → count_of test (flat_map f is) ≤ n
  unfolding flat_map count_of
  count_part f [] o c n b tell = omega arith
  count_part f (i ∷ is) (more out o) c n b tell =
      go (count_part f is o c n (λ j m. b j (later m)) (λ j x m. tell j x (later m))) (case (eqb i c))
    where
      joined : count_of test (f i ++ flat_map f is) ≡ count_of test (f i) + count_of test (flat_map f is)
      joined = count_joined (f i) (flat_map f is)

      go : count_of test (flat_map f is) ≤ n → Case (eqb i c) → count_of test (f i ++ flat_map f is) ≤ n
      go h (fail e) =
          let z : count_of test (f i) ≡ 0 = count_none test (f i) (λ x m. cannot_pass (test x) (λ t. eqb-false i c e (tell i x (first refl) m t))) in
          omega (arith, joined, z, h)
      go h (pass e) =
          let z : count_of test (flat_map f is) ≡ 0
          = none_else f is c (λ m. out (subst (λ (j : ℕ). In j is) (sym (eqb-true i c e)) m)) (λ j x m. tell j x (later m)) in
          omega (arith, joined, z, b i (first refl))

  -- one element more, or moved from the rest to the front
  pub count_more : (r : A) (rs : List A) → test r ≡ true → count_of test (r ∷ rs) ≡ suc (count_of test rs)
  unfolding count_of
  count_more r rs e = rw e

  pub count_moved : (r : A) (before rs : List A) → count_of test (r ∷ before) + count_of test rs ≡ count_of test before + count_of test (r ∷ rs)
  unfolding count_of
  count_moved r before rs = go (case (test r))
    where
      go : Case (test r) → cond (test r) (suc (count_of test before)) (count_of test before) + count_of test rs
          ≡ count_of test before + cond (test r) (suc (count_of test rs)) (count_of test rs)
      go (pass e) = rw e (omega arith)
      go (fail e) = rw e

-- ---- lengths
module _ {A B : Type 0} (f : A → List B) where
  pub flat_joined : (a b : List A) → length (flat_map f (a ++ b)) ≡ length (flat_map f a) + length (flat_map f b)
  unfolding flat_map
  flat_joined [] b = omega arith
  flat_joined (x ∷ xs) b =
      omega (arith, length-append (f x) (flat_map f (xs ++ b)), length-append (f x) (flat_map f xs), flat_joined xs b)

  -- each of at most w
  pub flat_most : (w : ℕ) (l : List A) → ((x : A) → In x l → length (f x) ≤ w) → length (flat_map f l) ≤ w * length l
  unfolding flat_map
  flat_most w [] h = omega arith
  flat_most w (x ∷ xs) h =
      let a : length (flat_map f xs) ≤ w * length xs = flat_most w xs (λ y m. h y (later m)) in
      let b : length (f x) ≤ w = h x (first refl) in
      omega (arith, length-append (f x) (flat_map f xs), a, b, mul-suc w (length xs))

  module _ (key : A → ℕ) where
    put_flat : (r : A) (l : List A) → length (flat_map f (put_into key r l)) ≡ length (f r) + length (flat_map f l)
    unfolding put_into flat_map
    put_flat r [] = length-append (f r) []
    put_flat r (x ∷ xs) = go (put_flat r xs) (case (leb (key r) (key x)))
      where
        go : length (flat_map f (put_into key r xs)) ≡ length (f r) + length (flat_map f xs) → Case (leb (key r) (key x))
            → length (flat_map f (cond (leb (key r) (key x)) (r ∷ x ∷ xs) (x ∷ put_into key r xs))) ≡ length (f r) + length (f x ++ flat_map f xs)
        go h (pass e) = rw e (length-append (f r) (f x ++ flat_map f xs))
        go h (fail e) = rw e (omega (arith, length-append (f x) (flat_map f (put_into key r xs)), length-append (f x) (flat_map f xs), h))

    pub sorted_flat : (l : List A) → length (flat_map f (sorted_by key l)) ≡ length (flat_map f l)
    unfolding sorted_by flat_map
    sorted_flat [] = refl
    sorted_flat (x ∷ xs) = omega (arith, put_flat x (sorted_by key xs), sorted_flat xs, length-append (f x) (flat_map f xs))

-- ---- keep that pass
module _ {A : Type 0} where
  pub keep_long : (test : A → Bool) (l : List A) → length (keep test l) ≡ count_of test l
  unfolding keep count_of
  keep_long test [] = refl
  keep_long test (x ∷ xs) = go (keep_long test xs) (case (test x))
    where
      go : length (keep test xs) ≡ count_of test xs → Case (test x)
          → length (cond (test x) (x ∷ keep test xs) (keep test xs)) ≡ cond (test x) (suc (count_of test xs)) (count_of test xs)
      go h (pass t) = rw t (ap suc h)
      go h (fail t) = rw t h

  pub keep_most : (test : A → Bool) (l : List A) → length (keep test l) ≤ length l
  unfolding keep
  keep_most test [] = omega arith
  keep_most test (x ∷ xs) = go (keep_most test xs) (case (test x))
    where
      go : length (keep test xs) ≤ length xs → Case (test x) → length (cond (test x) (x ∷ keep test xs) (keep test xs)) ≤ suc (length xs)
      go h (pass t) = rw t (omega (arith, h))
      go h (fail t) = rw t (omega (arith, h))
