-- The first i elements of f laid over t: what a loop that stores f's elements one after the other has after i turns. With the laws for
-- no turn, one more turn and the end. A fill is the front of a list that has one element everywhere. Last, the part of a list from a place
-- on.
use Prim.Native.Nat.{ℕ, zero, suc, ◌+◌, ◌-◌, ◌≤◌, ◌<◌}
use native.Mathlib.Numerals.{add-one}
use native.Mathlib.Omega.{arith}
use mathlib.Core.Path.{◌≡◌, refl, sym, ap, ◌∙◌}
use mathlib.Core.List.{List, [], ◌∷◌, ◌++◌}
use lib.ListN.{length, get_or, set, take, drop, replicate, length-replicate, get_or-replicate, length-drop}
use lib.Seq.{take_all}

unfoldable pub front : {A : Type 0} → ℕ → List A → List A → List A
front zero f t = t
front (suc i) [] t = t
front (suc i) (a ∷ f) [] = []
front (suc i) (a ∷ f) (b ∷ t) = a ∷ front i f t

module _ {A : Type 0} where
  pub front_none : (f t : List A) → t ≡ front 0 f t
  unfolding front
  front_none f t = refl

  front_suc : (i : ℕ) (f t : List A) (d : A) → i < length f → set (front i f t) i (get_or f i d) ≡ front (suc i) f t
  unfolding front
  front_suc zero [] t d h = absurd (omega arith)
  front_suc zero (a ∷ f) [] d h = refl
  front_suc zero (a ∷ f) (b ∷ t) d h = refl
  front_suc (suc i) [] t d h = absurd (omega arith)
  front_suc (suc i) (a ∷ f) [] d h = refl
  front_suc (suc i) (a ∷ f) (b ∷ t) d h = ap (λ (l : List A). a ∷ l) (front_suc i f t d (omega arith))

  pub front_more : (i : ℕ) (f t : List A) (d : A) → i < length f → set (front i f t) i (get_or f i d) ≡ front (i + 1) f t
  front_more i f t d h = rw add-one (front_suc i f t d h)

  pub front_long : (i : ℕ) (f t : List A) → length (front i f t) ≡ length t
  unfolding front
  front_long zero f t = refl
  front_long (suc i) [] t = refl
  front_long (suc i) (a ∷ f) [] = refl
  front_long (suc i) (a ∷ f) (b ∷ t) = ap suc (front_long i f t)

  pub front_end : (i : ℕ) (f t : List A) → length f ≤ i → length t ≡ length f → front i f t ≡ f
  unfolding front
  front_end zero [] [] h e = refl
  front_end zero [] (b ∷ t) h e = absurd (omega arith)
  front_end zero (a ∷ f) t h e = absurd (omega arith)
  front_end (suc i) [] [] h e = refl
  front_end (suc i) [] (b ∷ t) h e = absurd (omega arith)
  front_end (suc i) (a ∷ f) [] h e = absurd (omega arith)
  front_end (suc i) (a ∷ f) (b ∷ t) h e = ap (λ (l : List A). a ∷ l) (front_end i f t (omega arith) (omega arith))

  -- all of f over the front of a longer list
  pub front_over : (i : ℕ) (f t : List A) → length f ≤ i → length f ≤ length t → front i f t ≡ f ++ drop (length f) t
  unfolding front
  front_over zero [] t h l = refl
  front_over zero (a ∷ f) t h l = absurd (omega arith)
  front_over (suc i) [] t h l = refl
  front_over (suc i) (a ∷ f) [] h l = absurd (omega arith)
  front_over (suc i) (a ∷ f) (b ∷ t) h l = ap (λ (r : List A). a ∷ r) (front_over i f t (omega arith) (omega arith))

  -- ---- a fill with x
  pub fill_more : (i n : ℕ) (x : A) (t : List A) → i < n → set (front i (replicate n x) t) i x ≡ front (i + 1) (replicate n x) t
  fill_more i n x t h =
      ap (λ (y : A). set (front i (replicate n x) t) i y) (sym (get_or-replicate n i x x h))
      ∙ front_more i (replicate n x) t x (omega (arith, length-replicate n x))

  pub fill_end : (i n : ℕ) (x : A) (t : List A) → n ≤ i → length t ≡ n → front i (replicate n x) t ≡ replicate n x
  fill_end i n x t h e = front_end i (replicate n x) t (omega (arith, length-replicate n x)) (e ∙ sym (length-replicate n x))

  front_split : (k : ℕ) (f t : List A) → k ≤ length f → length t ≡ length f → front k f t ≡ take k f ++ drop k t
  unfolding front
  front_split zero f t h e = refl
  front_split (suc k) [] t h e = absurd (omega arith)
  front_split (suc k) (a ∷ f) [] h e = absurd (omega arith)
  front_split (suc k) (a ∷ f) (b ∷ t) h e = ap (λ (l : List A). a ∷ l) (front_split k f t (omega arith) (omega arith))

  -- k more elements at once, stored in the part that starts at s
  pub front_part : (s k : ℕ) (f t : List A) → s + k ≤ length f → length t ≡ length f
      → take s (front s f t) ++ (take k (drop s f) ++ drop k (drop s (front s f t))) ≡ front (s + k) f t
  unfolding front
  front_part zero k f t h e =
      let z : 0 + k ≡ k = omega arith in
      rw z (sym (front_split k f t (omega arith) e))
  front_part (suc s) k [] t h e = absurd (omega arith)
  front_part (suc s) k (a ∷ f) [] h e = absurd (omega arith)
  front_part (suc s) k (a ∷ f) (b ∷ t) h e =
      let z : suc s + k ≡ suc (s + k) = omega arith in
      rw z (ap (λ (l : List A). a ∷ l) (front_part s k f t (omega arith) (omega arith)))

-- the part of a list from `at` on
pub rest_part : {A : Type 0} (l : List A) (at : ℕ) → take (length l - at) (drop at l) ≡ drop at l
rest_part l at = take_all (length l - at) (drop at l) (omega (arith, length-drop at l))
