-- The first element that passes a test: what is found, after an element is put in the first place that passes another test, and
-- after a change of every element. Then the least number that passes.
use Prim.Native.Nat.{ℕ, zero, suc, ◌+◌, ◌≤◌, ◌<◌}
use native.Mathlib.Nat.{le_of_suc-le-suc, not-suc-le-zero, eq-or-lt_of_le}
use native.Mathlib.Omega.{arith}
use mathlib.Core.Path.{◌≡◌, refl, sym, ap, ◌∙◌}
use mathlib.Core.Logic.{◌⊎◌, inl, inr}
use mathlib.Core.Bool.{Bool, true, false, cond}
use mathlib.Core.List.{List, [], ◌∷◌, map}
use lib.Dec.{ltb}
use lib.ListN.{length, get_or, set}
use borrow.Author.Tests.{ltb-true, ltb-false}
use Rattle.lists.specs.Lists.{first_index, some, least}
use Rattle.lists.proofs.Tests.{Case, pass, fail, case, no_true, contradiction}

module _ {A : Type 0} where
  -- the first element that passes, or d
  abbrev pub find : (A → Bool) → List A → A → A
  find f l d = get_or l (first_index f l) d

  pub first_here : (f : A → Bool) (x : A) (xs : List A) → f x ≡ true → first_index f (x ∷ xs) ≡ 0
  unfolding first_index
  first_here f x xs e = rw e

  pub first_later : (f : A → Bool) (x : A) (xs : List A) → f x ≡ false → first_index f (x ∷ xs) ≡ suc (first_index f xs)
  unfolding first_index
  first_later f x xs e = rw e

  pub first_within : (f : A → Bool) (l : List A) → first_index f l ≤ length l
  unfolding first_index
  first_within f [] = omega arith
  first_within f (x ∷ xs) = go (first_within f xs) (case (f x))
    where
      go : first_index f xs ≤ length xs → Case (f x) → cond (f x) 0 (suc (first_index f xs)) ≤ suc (length xs)
      go later (pass e) = rw e (omega arith)
      go later (fail e) = rw e (omega arith)

  pub find_here : (f : A → Bool) (x : A) (xs : List A) (d : A) → f x ≡ true → find f (x ∷ xs) d ≡ x
  find_here f x xs d e = rw (first_here f x xs e)

  pub find_later : (f : A → Bool) (x : A) (xs : List A) (d : A) → f x ≡ false → find f (x ∷ xs) d ≡ find f xs d
  find_later f x xs d e = rw (first_later f x xs e)

  -- what is found passes, or is the default
  pub find_passes : (f : A → Bool) (l : List A) (d : A) → first_index f l < length l → f (find f l d) ≡ true
  find_passes f [] d h = absurd (not-suc-le-zero h)
  find_passes f (x ∷ xs) d h = go (case (f x)) (find_passes f xs d)
    where
      go : Case (f x) → (first_index f xs < length xs → f (find f xs d) ≡ true) → f (find f (x ∷ xs) d) ≡ true
      go (pass e) ih = rw (find_here f x xs d e) e
      go (fail e) ih = rw (find_later f x xs d e) (ih (le_of_suc-le-suc (rw (first_later f x xs e) at h)))

  -- what passes at a place is found somewhere
  pub first_bound : (f : A → Bool) (l : List A) (d : A) (i : ℕ) → i < length l → f (get_or l i d) ≡ true → first_index f l < length l
  first_bound f [] d i h p = absurd (not-suc-le-zero h)
  first_bound f (x ∷ xs) d zero h p = rw (first_here f x xs p) (omega arith)
  first_bound f (x ∷ xs) d (suc i) h p = go (case (f x)) (first_bound f xs d i (le_of_suc-le-suc h) p)
    where
      go : Case (f x) → first_index f xs < length xs → first_index f (x ∷ xs) < length (x ∷ xs)
      go (pass e) ih = rw (first_here f x xs e) (omega arith)
      go (fail e) ih = rw (first_later f x xs e) (omega arith)

  pub some_first : (f : A → Bool) (l : List A) → some f l ≡ true → first_index f l < length l
  unfolding some
  some_first f [] e = no_true e
  some_first f (x ∷ xs) e = go (case (f x)) (some_first f xs)
    where
      go : Case (f x) → (some f xs ≡ true → first_index f xs < length xs) → first_index f (x ∷ xs) < length (x ∷ xs)
      go (pass h) ih = rw (first_here f x xs h) (omega arith)
      go (fail h) ih = let b : first_index f xs < length xs = ih (rw h at e) in rw (first_later f x xs h) (omega arith)

  pub first_some : (f : A → Bool) (l : List A) → first_index f l < length l → some f l ≡ true
  unfolding some
  first_some f [] h = absurd (not-suc-le-zero h)
  first_some f (x ∷ xs) h = go (case (f x)) (first_some f xs)
    where
      go : Case (f x) → (first_index f xs < length xs → some f xs ≡ true) → some f (x ∷ xs) ≡ true
      go (pass e) ih = rw e
      go (fail e) ih = rw e (ih (le_of_suc-le-suc (rw (first_later f x xs e) at h)))

  -- a test that passes at nothing in the list
  pub none_found : (f : A → Bool) (l : List A) (d : A) → f d ≡ false → f (find f l d) ≡ false → find f l d ≡ d
  none_found f [] d h p = refl
  none_found f (x ∷ xs) d h p = go (case (f x)) (none_found f xs d h)
    where
      go : Case (f x) → (f (find f xs d) ≡ false → find f xs d ≡ d) → find f (x ∷ xs) d ≡ d
      go (pass e) ih = let z : ◌≡◌ {A = Bool} true false = sym e ∙ ap f (sym (find_here f x xs d e)) ∙ p in cc
      go (fail e) ih = find_later f x xs d e ∙ ih (ap f (sym (find_later f x xs d e)) ∙ p)

  -- tests that agree find alike
  pub first_same : (f g : A → Bool) → ((x : A) → f x ≡ g x) → (l : List A) → first_index f l ≡ first_index g l
  unfolding first_index
  first_same f g e [] = refl
  first_same f g e (x ∷ xs) = λ i. cond (e x i) 0 (suc (first_same f g e xs i))

  -- k put in the first place that passes g; no element passes both g and f, and k passes f: k is found, if nothing was
  module _ (f g : A → Bool) (k d : A) (apart : (x : A) → g x ≡ true → f x ≡ false) where
    pub find_put_other : f k ≡ false → (l : List A) → find f (set l (first_index g l) k) d ≡ find f l d
    find_put_other fk [] = refl
    find_put_other fk (x ∷ xs) = go (case (g x)) (case (f x)) (find_put_other fk xs)
      where
        go : Case (g x) → Case (f x) → find f (set xs (first_index g xs) k) d ≡ find f xs d → find f (set (x ∷ xs) (first_index g (x ∷ xs)) k) d ≡ find f (x ∷ xs) d
        go (pass e) _ ih = rw (first_here g x xs e) (find_later f k xs d fk ∙ sym (find_later f x xs d (apart x e)))
        go (fail e) (pass p) ih = rw (first_later g x xs e) (find_here f x (set xs (first_index g xs) k) d p ∙ sym (find_here f x xs d p))
        go (fail e) (fail p) ih = rw (first_later g x xs e) (find_later f x (set xs (first_index g xs) k) d p ∙ ih ∙ sym (find_later f x xs d p))

    pub find_put_same : f k ≡ true → f d ≡ false → (l : List A) → first_index g l < length l → f (find f l d) ≡ false → find f (set l (first_index g l) k) d ≡ k
    find_put_same fk fd [] h n = absurd (not-suc-le-zero h)
    find_put_same fk fd (x ∷ xs) h n = go (case (g x)) (case (f x)) (find_put_same fk fd xs)
      where
        go : Case (g x) → Case (f x) → (first_index g xs < length xs → f (find f xs d) ≡ false → find f (set xs (first_index g xs) k) d ≡ k)
            → find f (set (x ∷ xs) (first_index g (x ∷ xs)) k) d ≡ k
        go (pass e) _ ih = rw (first_here g x xs e) (find_here f k xs d fk)
        go (fail e) (pass p) ih = let z : ◌≡◌ {A = Bool} true false = sym p ∙ ap f (sym (find_here f x xs d p)) ∙ n in cc
        go (fail e) (fail p) ih =
            rw (first_later g x xs e)
            (find_later f x (set xs (first_index g xs) k) d p
            ∙ ih (le_of_suc-le-suc (rw (first_later g x xs e) at h)) (ap f (sym (find_later f x xs d p)) ∙ n))

  -- every element changed by h, which keeps the test where it keeps the element
  module _ (f : A → Bool) (d : A) (h : A → A) where
    pub find_map_none : f d ≡ false → ((x : A) → f (h x) ≡ false) → (l : List A) → find f (map h l) d ≡ d
    find_map_none fd c [] = refl
    find_map_none fd c (x ∷ xs) = find_later f (h x) (map h xs) d (c x) ∙ find_map_none fd c xs

    pub find_map_same : ((x : A) → f x ≡ true → h x ≡ x) → ((x : A) → f x ≡ false → f (h x) ≡ false)
        → (l : List A) → find f (map h l) d ≡ find f l d
    find_map_same k n [] = refl
    find_map_same k n (x ∷ xs) = go (case (f x)) (find_map_same k n xs)
      where
        go : Case (f x) → find f (map h xs) d ≡ find f xs d → find f (h x ∷ map h xs) d ≡ find f (x ∷ xs) d
        go (pass e) ih = find_here f (h x) (map h xs) d (ap f (k x e) ∙ e) ∙ k x e ∙ sym (find_here f x xs d e)
        go (fail e) ih = find_later f (h x) (map h xs) d (n x e) ∙ ih ∙ sym (find_later f x xs d e)

-- ---- the least number that passes
pub least_passes : (f : ℕ → Bool) (k s : ℕ) → least f k s < k + s → f (least f k s) ≡ true
unfolding least
least_passes f zero s h = absurd (omega arith)
least_passes f (suc k) s h = go (case (f s)) (least_passes f k (suc s))
  where
    go : Case (f s) → (least f k (suc s) < k + suc s → f (least f k (suc s)) ≡ true) → f (cond (f s) s (least f k (suc s))) ≡ true
    go (pass e) ih = rw e e
    go (fail e) ih =
        let b : least f k (suc s) < suc k + s = rw e at h in
        rw e (ih (omega arith))

-- none below it does
pub least_below : (f : ℕ → Bool) (k s m : ℕ) → s ≤ m → m < least f k s → f m ≡ false
unfolding least
least_below f zero s m a b = absurd (omega arith)
least_below f (suc k) s m a b = go (case (f s)) (eq-or-lt_of_le a) (least_below f k (suc s) m)
  where
    go : Case (f s) → (s ≡ m) ⊎ (s < m) → (suc s ≤ m → m < least f k (suc s) → f m ≡ false) → f m ≡ false
    go (pass e) _ ih = let b' : m < s = rw e at b in absurd (omega arith)
    go (fail e) (inl q) ih = ap f (sym q) ∙ e
    go (fail e) (inr q) ih = ih q (rw e at b)

pub least_most : (f : ℕ → Bool) (k s : ℕ) → least f k s ≤ k + s
unfolding least
least_most f zero s = omega arith
least_most f (suc k) s = go (case (f s)) (least_most f k (suc s))
  where
    go : Case (f s) → least f k (suc s) ≤ k + suc s → cond (f s) s (least f k (suc s)) ≤ suc k + s
    go (pass e) ih = rw e (omega arith)
    go (fail e) ih = rw e (omega arith)

least_low : (f : ℕ → Bool) (k s : ℕ) → s ≤ least f k s
unfolding least
least_low f zero s = omega arith
least_low f (suc k) s = go (case (f s)) (least_low f k (suc s))
  where
    go : Case (f s) → suc s ≤ least f k (suc s) → s ≤ cond (f s) s (least f k (suc s))
    go (pass e) ih = rw e (omega arith)
    go (fail e) ih = rw e (omega arith)

-- a number that passes, where none below it does
pub least_is : (f : ℕ → Bool) (k s m : ℕ) → m ≤ k + s → ((j : ℕ) → s ≤ j → j < m → f j ≡ false) → s ≤ m → f m ≡ true → least f k s ≡ m
least_is f k s m a none low h = go (case (ltb (least f k s) m)) (case (ltb m (least f k s)))
  where
    go : Case (ltb (least f k s) m) → Case (ltb m (least f k s)) → least f k s ≡ m
    go (pass e) _ =
        let b : least f k s < m = ltb-true (least f k s) m e in
        contradiction (least_passes f k s (omega arith)) (none (least f k s) (least_low f k s) b)
    go (fail e) (pass e') = contradiction h (least_below f k s m low (ltb-true m (least f k s) e'))
    go (fail e) (fail e') = omega (arith, ltb-false (least f k s) m e, ltb-false m (least f k s) e')

pub first_map : {A B : Type 0} (f : B → Bool) (g : A → B) (l : List A) → first_index f (map g l) ≡ first_index (λ x. f (g x)) l
unfolding first_index
first_map f g [] = refl
first_map f g (x ∷ xs) = ap (λ (i : ℕ). cond (f (g x)) 0 (suc i)) (first_map f g xs)
