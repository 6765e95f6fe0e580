-- Tests of every element, of some and of every two, by places; and a change of every element that sees the place. Each test has a law that
-- builds it from places (intro) and one that takes it to places (elim).
use Prim.Native.Nat.{ℕ, zero, suc, ◌+◌, ◌<◌}
use native.Mathlib.Nat.{le_of_suc-le-suc, not-suc-le-zero}
use native.Mathlib.Omega.{arith}
use mathlib.Core.Path.{◌≡◌, refl, sym, ap, ◌∙◌, subst}
use mathlib.Core.Bool.{Bool, true, false, not, ◌&&◌, ◌||◌}
use mathlib.Core.List.{List, [], ◌∷◌, ◌++◌, map}
use lib.ListN.{length, get_or, set}
use borrow.Author.Tests.{not-true}
use Rattle.lists.specs.Tests.{implies}
use Rattle.lists.specs.Lists.{all, some, no_two, all_at, some_at, map_at}
use Rattle.lists.proofs.Tests.{Case, pass, fail, case, no_true, contradiction, cannot_pass, and_l, and_r, and_intro, or_left, or_right, not_test, implies_intro, implies_elim}

zero_plus : (j : ℕ) → 0 + j ≡ j
zero_plus j = omega arith

module _ {A : Type 0} (d : A) where
  -- ---- every element passes
  pub all_intro : (f : A → Bool) (l : List A) → ((j : ℕ) → j < length l → f (get_or l j d) ≡ true) → all f l ≡ true
  unfolding all
  all_intro f [] h = refl
  all_intro f (x ∷ xs) h = and_intro (h 0 (omega arith)) (all_intro f xs (λ j b. h (suc j) (omega arith)))

  pub all_elim : (f : A → Bool) (l : List A) → all f l ≡ true → (j : ℕ) → j < length l → f (get_or l j d) ≡ true
  unfolding all
  all_elim f [] e j h = absurd (not-suc-le-zero h)
  all_elim f (x ∷ xs) e zero h = and_l (f x) (all f xs) e
  all_elim f (x ∷ xs) e (suc j) h = all_elim f xs (and_r (f x) (all f xs) e) j (le_of_suc-le-suc h)

  all_at_from : (f : ℕ → A → Bool) (i : ℕ) (l : List A) → ((j : ℕ) → j < length l → f (i + j) (get_or l j d) ≡ true) → all_at f i l ≡ true
  unfolding all_at
  all_at_from f i [] h = refl
  all_at_from f i (x ∷ xs) h =
      and_intro (subst (λ (m : ℕ). f m x ≡ true) (omega arith) (h 0 (omega arith)))
      (all_at_from f (suc i) xs (λ j b. subst (λ (m : ℕ). f m (get_or xs j d) ≡ true) (omega arith) (h (suc j) (omega arith))))

  all_at_to : (f : ℕ → A → Bool) (i : ℕ) (l : List A) → all_at f i l ≡ true → (j : ℕ) → j < length l → f (i + j) (get_or l j d) ≡ true
  unfolding all_at
  all_at_to f i [] e j h = absurd (not-suc-le-zero h)
  all_at_to f i (x ∷ xs) e zero h = subst (λ (m : ℕ). f m x ≡ true) (omega arith) (and_l (f i x) _ e)
  all_at_to f i (x ∷ xs) e (suc j) h =
      subst (λ (m : ℕ). f m (get_or xs j d) ≡ true) (omega arith) (all_at_to f (suc i) xs (and_r (f i x) _ e) j (le_of_suc-le-suc h))

  pub all_at_intro : (f : ℕ → A → Bool) (l : List A) → ((j : ℕ) → j < length l → f j (get_or l j d) ≡ true) → all_at f 0 l ≡ true
  all_at_intro f l h = all_at_from f 0 l (λ j b. subst (λ (m : ℕ). f m (get_or l j d) ≡ true) (sym (zero_plus j)) (h j b))

  pub all_at_elim : (f : ℕ → A → Bool) (l : List A) → all_at f 0 l ≡ true → (j : ℕ) → j < length l → f j (get_or l j d) ≡ true
  all_at_elim f l e j h = subst (λ (m : ℕ). f m (get_or l j d) ≡ true) (zero_plus j) (all_at_to f 0 l e j h)

  -- ---- some element passes
  pub record Somewhere (f : ℕ → A → Bool) (l : List A) : Type 0 where
    pub place : ℕ
    pub low : place < length l
    pub passes : f place (get_or l place d) ≡ true

  some_at_from : (f : ℕ → A → Bool) (i : ℕ) (l : List A) (j : ℕ) → j < length l → f (i + j) (get_or l j d) ≡ true → some_at f i l ≡ true
  unfolding some_at
  some_at_from f i [] j h e = absurd (not-suc-le-zero h)
  some_at_from f i (x ∷ xs) zero h e = or_left (some_at f (suc i) xs) (subst (λ (m : ℕ). f m x ≡ true) (omega arith) e)
  some_at_from f i (x ∷ xs) (suc j) h e =
      or_right (f i x) (some_at_from f (suc i) xs j (le_of_suc-le-suc h) (subst (λ (m : ℕ). f m (get_or xs j d) ≡ true) (omega arith) e))

  some_at_to : (f : ℕ → A → Bool) (i : ℕ) (l : List A) → some_at f i l ≡ true → Somewhere (λ j. f (i + j)) l
  unfolding some_at
  some_at_to f i [] e = no_true e
  some_at_to f i (x ∷ xs) e = go (case (f i x)) (some_at_to f (suc i) xs)
    where
      go : Case (f i x) → (some_at f (suc i) xs ≡ true → Somewhere (λ j. f (suc i + j)) xs) → Somewhere (λ j. f (i + j)) (x ∷ xs)
      go (pass h) ih = record { place = 0; low = omega arith; passes = subst (λ (m : ℕ). f m x ≡ true) (omega arith) h }
      go (fail h) ih =
          let p : Somewhere (λ j. f (suc i + j)) xs = ih (rw h at e) in
          record {
            place = suc p.place;
            low = omega (arith, p.low);
            passes = subst (λ (m : ℕ). f m (get_or xs p.place d) ≡ true) (omega arith) p.passes;
          }

  pub some_at_intro : (f : ℕ → A → Bool) (l : List A) (j : ℕ) → j < length l → f j (get_or l j d) ≡ true → some_at f 0 l ≡ true
  some_at_intro f l j h e = some_at_from f 0 l j h (subst (λ (m : ℕ). f m (get_or l j d) ≡ true) (sym (zero_plus j)) e)

  pub some_at_elim : (f : ℕ → A → Bool) (l : List A) → some_at f 0 l ≡ true → Somewhere f l
  some_at_elim f l e =
      let p : Somewhere (λ j. f (0 + j)) l = some_at_to f 0 l e in
      record {
        place = p.place;
        low = p.low;
        passes = subst (λ (m : ℕ). f m (get_or l p.place d) ≡ true) (zero_plus p.place) p.passes;
      }

  -- `some` is `some_at` with a test that does not look at the place
  some_at_lem : (f : A → Bool) (i : ℕ) (l : List A) → some f l ≡ some_at (λ j. f) i l
  unfolding some some_at
  some_at_lem f i [] = refl
  some_at_lem f i (x ∷ xs) = ap (λ (b : Bool). f x || b) (some_at_lem f (suc i) xs)

  pub some_intro : (f : A → Bool) (l : List A) (j : ℕ) → j < length l → f (get_or l j d) ≡ true → some f l ≡ true
  some_intro f l j h e = some_at_lem f 0 l ∙ some_at_intro (λ i. f) l j h e

  pub some_elim : (f : A → Bool) (l : List A) → some f l ≡ true → Somewhere (λ i. f) l
  some_elim f l e = some_at_elim (λ i. f) l (sym (some_at_lem f 0 l) ∙ e)

  -- ---- no two elements that count are alike
  module _ (counts : A → Bool) (alike : A → A → Bool) where
    pub no_two_intro : (l : List A)
        → ((i j : ℕ) → i < j → j < length l → counts (get_or l i d) ≡ true → counts (get_or l j d) ≡ true → alike (get_or l i d) (get_or l j d) ≡ false)
        → no_two counts alike l ≡ true
    unfolding no_two
    no_two_intro [] h = refl
    no_two_intro (x ∷ xs) h =
        and_intro (implies_intro (counts x) _ (λ c. not_test (some (λ y. counts y && alike x y) xs) (cannot_pass (some (λ y. counts y && alike x y) xs) (alone c))))
        (no_two_intro xs (λ i j p q. h (suc i) (suc j) (omega arith) (omega arith)))
      where
        alone : counts x ≡ true → some (λ y. counts y && alike x y) xs ≡ true → ⊥
        alone c e =
            let p : Somewhere (λ i y. counts y && alike x y) xs = some_elim (λ y. counts y && alike x y) xs e in
            contradiction (and_r (counts (get_or xs p.place d)) _ p.passes)
            (h 0 (suc p.place) (omega arith) (omega (arith, p.low)) c (and_l (counts (get_or xs p.place d)) _ p.passes))

    pub no_two_elim : (l : List A) → no_two counts alike l ≡ true
        → (i j : ℕ) → i < j → j < length l → counts (get_or l i d) ≡ true → counts (get_or l j d) ≡ true → alike (get_or l i d) (get_or l j d) ≡ false
    unfolding no_two
    no_two_elim [] e i j p q c k = absurd (not-suc-le-zero q)
    no_two_elim (x ∷ xs) e i zero p q c k = absurd (not-suc-le-zero p)
    no_two_elim (x ∷ xs) e zero (suc j) p q c k =
        cannot_pass (alike x (get_or xs j d))
        (λ h.
        contradiction (some_intro (λ y. counts y && alike x y) xs j (le_of_suc-le-suc q) (and_intro k h))
        (not-true (some (λ y. counts y && alike x y) xs) (implies_elim (counts x) _ (and_l (implies (counts x) _) _ e) c)))
    no_two_elim (x ∷ xs) e (suc i) (suc j) p q c k =
        no_two_elim xs (and_r (implies (counts x) (not (some (λ y. counts y && alike x y) xs))) _ e) i j (le_of_suc-le-suc p) (le_of_suc-le-suc q) c k

  -- ---- every element changed
  map_at_from : (h : ℕ → A → A) → ((i : ℕ) → h i d ≡ d) → (i : ℕ) (l : List A) (j : ℕ) → get_or (map_at h i l) j d ≡ h (i + j) (get_or l j d)
  unfolding map_at
  map_at_from h e i [] j = sym (e (i + j))
  map_at_from h e i (x ∷ xs) zero = ap (λ (m : ℕ). h m x) (omega arith)
  map_at_from h e i (x ∷ xs) (suc j) = map_at_from h e (suc i) xs j ∙ ap (λ (m : ℕ). h m (get_or xs j d)) (omega arith)

  -- a change that keeps the default, at any place
  pub get_or_map_at : (h : ℕ → A → A) → ((i : ℕ) → h i d ≡ d) → (l : List A) (j : ℕ) → get_or (map_at h 0 l) j d ≡ h j (get_or l j d)
  get_or_map_at h e l j = map_at_from h e 0 l j ∙ ap (λ (m : ℕ). h m (get_or l j d)) (zero_plus j)

module _ {A : Type 0} where
  -- two lists, one behind the other
  pub all_append : (f : A → Bool) (l m : List A) → all f l ≡ true → all f m ≡ true → all f (l ++ m) ≡ true
  unfolding all
  all_append f [] m p q = q
  all_append f (x ∷ l) m p q = and_intro (and_l (f x) (all f l) p) (all_append f l m (and_r (f x) (all f l) p) q)

  pub length_map_at : (h : ℕ → A → A) (i : ℕ) (l : List A) → length (map_at h i l) ≡ length l
  unfolding map_at
  length_map_at h i [] = refl
  length_map_at h i (x ∷ xs) = ap suc (length_map_at h (suc i) xs)

  pub map_id : (h : A → A) → ((x : A) → h x ≡ x) → (l : List A) → map h l ≡ l
  map_id h e [] = refl
  map_id h e (x ∷ xs) = λ j. e x j ∷ map_id h e xs j

pub map_set : {A B : Type 0} (f : A → B) (l : List A) (i : ℕ) (a : A) → map f (set l i a) ≡ set (map f l) i (f a)
map_set f [] i a = refl
map_set f (x ∷ xs) zero a = refl
map_set {A} {B} f (x ∷ xs) (suc i) a = ap {B = List B} (λ r. f x ∷ r) (map_set f xs i a)
