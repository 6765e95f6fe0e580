-- Laws of lines, fields and values: a text is its first part and what follows the byte behind it.
use Prim.Native.Nat.{ℕ, suc, ◌+◌, ◌≤◌, ◌<◌}
use native.Mathlib.Nat.{le_of_suc-le-suc, not-suc-le-zero, suc_inj}
use native.Mathlib.Numerals.{add-one}
use native.Mathlib.Omega.{arith}
use mathlib.Core.Path.{◌≡◌, refl, sym, ap, ◌∙◌}
use mathlib.Core.Bool.{Bool, true, false, cond, ◌&&◌}
use mathlib.Core.List.{List, [], ◌∷◌}
use Rattle.std.specs.Prelude.{Option, position, unwrap_or}
use Rattle.std.specs.List.{position_or_len}
use Rattle.std.proofs.lemmas.List.Recursion.{is_position_or_len}
use lib.Dec.{leb, ltb, eqb}
use lib.ListN.{length, take, drop, drop_of_length-le}
use lib.Seq.{length-take-le, take_all}
use borrow.Author.Tests.{eq-eqb, ne_eqb, leb-true, leb-false, ltb-false, eqb-true}
use Rattle.lists.specs.Lists.{all, first_index}
use Rattle.lists.proofs.Tests.{Case, pass, fail, case, and_false, both_ways}
use Rattle.lists.proofs.Search.{first_here, first_later, first_within}
use Rattle.text.specs.Bytes.{line_end, space}
use Rattle.text.specs.Reading.{in_front, cut, lines, fields, number, is_value, has_values, values_of, first_field}

-- ---- cutting
-- where the first byte `b` stands, or the length
abbrev pub up_to : ℕ → List ℕ → ℕ
up_to b l = first_index (λ x. eqb x b) l

-- the place that std's search tells, or else the length, is the first that passes
pub place_or_length : (test : ℕ → Bool) (l : List ℕ) (place : Option ℕ) → place ≡ position test l
    → unwrap_or place (length l) ≡ first_index test l
unfolding first_index
place_or_length test l place told = go (case (ltb (position_or_len test l) (length l)))
  where
    first_is : first_index test l ≡ position_or_len test l
    first_is = is_position_or_len (first_index test) test refl (λ x xs. ap (λ (n : ℕ). cond (test x) 0 n) (omega arith)) l

    go : Case (ltb (position_or_len test l) (length l)) → unwrap_or place (length l) ≡ first_index test l
    go (pass e) = rw (told, e, first_is)
    go (fail e) = rw (told, e) (omega (arith, first_is, ltb-false _ _ e, first_within test l))

-- what stands in front of it
pub part_long : (b : ℕ) (l : List ℕ) (end : ℕ) → end ≡ up_to b l → end ≡ length (take end l)
part_long b l end e = sym (length-take-le end l (omega (arith, e, first_within (λ x. eqb x b) l)))

module _ (b : ℕ) where
  up_to_here : (x : ℕ) (xs : List ℕ) → eqb x b ≡ true → up_to b (x ∷ xs) ≡ 0
  up_to_here x xs e = first_here (λ y. eqb y b) x xs e

  up_to_later : (x : ℕ) (xs : List ℕ) → eqb x b ≡ false → up_to b (x ∷ xs) ≡ suc (up_to b xs)
  up_to_later x xs e = first_later (λ y. eqb y b) x xs e

  cut_found : (last : List (List ℕ)) (l : List ℕ) → up_to b l < length l
      → cut b last l ≡ take (up_to b l) l ∷ cut b last (drop (suc (up_to b l)) l)
  unfolding cut in_front
  cut_found last [] h = absurd (not-suc-le-zero h)
  cut_found last (x ∷ xs) h = go (cut_found last xs) (case (eqb x b))
    where
      go : (up_to b xs < length xs → cut b last xs ≡ take (up_to b xs) xs ∷ cut b last (drop (suc (up_to b xs)) xs)) → Case (eqb x b)
          → cut b last (x ∷ xs) ≡ take (up_to b (x ∷ xs)) (x ∷ xs) ∷ cut b last (drop (suc (up_to b (x ∷ xs))) (x ∷ xs))
      go later (pass e) = rw (up_to_here x xs e, e)
      go later (fail e) = rw (up_to_later x xs e, e) (ap (in_front x) (later (le_of_suc-le-suc (rw (up_to_later x xs e) at h))))

  -- no byte `b`: one part
  cut_field : (l : List ℕ) → length l ≤ up_to b l → cut b ([] ∷ []) l ≡ l ∷ []
  unfolding cut in_front
  cut_field [] h = refl
  cut_field (x ∷ xs) h = go (cut_field xs) (case (eqb x b))
    where
      go : (length xs ≤ up_to b xs → cut b ([] ∷ []) xs ≡ xs ∷ []) → Case (eqb x b) → cut b ([] ∷ []) (x ∷ xs) ≡ (x ∷ xs) ∷ []
      go later (pass e) = absurd (not-suc-le-zero (rw (up_to_here x xs e) at h))
      go later (fail e) = rw e (ap (in_front x) (later (le_of_suc-le-suc (rw (up_to_later x xs e) at h))))

  cut_line : (x : ℕ) (xs : List ℕ) → length (x ∷ xs) ≤ up_to b (x ∷ xs) → cut b [] (x ∷ xs) ≡ (x ∷ xs) ∷ []
  unfolding cut in_front
  cut_line x [] h = go (case (eqb x b))
    where
      go : Case (eqb x b) → cut b [] (x ∷ []) ≡ (x ∷ []) ∷ []
      go (pass e) = absurd (not-suc-le-zero (rw (up_to_here x [] e) at h))
      go (fail e) = rw e
  cut_line x (y ∷ ys) h = go (cut_line y ys) (case (eqb x b))
    where
      go : (length (y ∷ ys) ≤ up_to b (y ∷ ys) → cut b [] (y ∷ ys) ≡ (y ∷ ys) ∷ []) → Case (eqb x b)
          → cut b [] (x ∷ y ∷ ys) ≡ (x ∷ y ∷ ys) ∷ []
      go later (pass e) = absurd (not-suc-le-zero (rw (up_to_here x (y ∷ ys) e) at h))
      go later (fail e) = rw e (ap (in_front x) (later (le_of_suc-le-suc (rw (up_to_later x (y ∷ ys) e) at h))))

-- ---- lines and fields
-- text that is left begins with a line; nothing is left behind the last
pub lines_first : (text : List ℕ) → 0 < length text
    → lines text ≡ take (up_to line_end text) text ∷ lines (drop (suc (up_to line_end text)) text)
unfolding lines cut
lines_first [] h = absurd (not-suc-le-zero h)
lines_first (x ∷ xs) h = go (case (leb (length (x ∷ xs)) (up_to line_end (x ∷ xs))))
  where
    go : Case (leb (length (x ∷ xs)) (up_to line_end (x ∷ xs)))
        → cut line_end [] (x ∷ xs) ≡ take (up_to line_end (x ∷ xs)) (x ∷ xs) ∷ cut line_end [] (drop (suc (up_to line_end (x ∷ xs))) (x ∷ xs))
    go (pass e) =
        let long = leb-true _ _ e in
        let end = up_to line_end (x ∷ xs) in
        cut_line line_end x xs long
        ∙ λ i. sym (take_all end (x ∷ xs) long) i ∷ cut line_end [] (sym (drop_of_length-le (x ∷ xs) {i = suc end} (omega arith)) i)
    go (fail e) = cut_found line_end [] (x ∷ xs) (leb-false _ _ e)

pub lines_none : lines [] ≡ []
unfolding lines cut
lines_none = refl

fields_more : (line : List ℕ) → up_to space line < length line
    → fields line ≡ first_field line ∷ fields (drop (suc (up_to space line)) line)
unfolding fields first_field
fields_more line h = cut_found space ([] ∷ []) line h

-- the first field is as long as the way to the next space or the end
pub first_long : (rest : List ℕ) → length (first_field rest) ≡ up_to space rest
unfolding first_field
first_long rest = length-take-le (up_to space rest) rest (first_within (λ b. eqb b space) rest)

fields_last : (line : List ℕ) → length line ≤ up_to space line → fields line ≡ first_field line ∷ []
unfolding fields first_field
fields_last line h = cut_field space line h ∙ ap (λ (f : List ℕ). f ∷ []) (sym (take_all (up_to space line) line h))

-- ---- a line's values, field by field
same_count : (m n : ℕ) → eqb (suc m) (suc n) ≡ eqb m n
same_count m n = both_ways _ _ (λ e. eq-eqb m n (suc_inj (eqb-true _ _ e))) (λ e. eq-eqb _ _ (ap suc (eqb-true m n e)))

pub values_more : (n : ℕ) (line : List ℕ) → up_to space line < length line → is_value (first_field line) ≡ true
    → has_values (n + 1) line ≡ has_values n (drop (suc (up_to space line)) line)
unfolding has_values all
values_more n line h v = rw (fields_more line h, v, add-one, same_count)

pub values_rest : (line : List ℕ) → up_to space line < length line
    → values_of line ≡ number (first_field line) ∷ values_of (drop (suc (up_to space line)) line)
unfolding values_of
values_rest line h = rw (fields_more line h)

pub values_last : (line : List ℕ) → length line ≤ up_to space line → values_of line ≡ number (first_field line) ∷ []
unfolding values_of
values_last line h = rw (fields_last line h)

pub one_value : (line : List ℕ) → length line ≤ up_to space line → is_value (first_field line) ≡ true → has_values 1 line ≡ true
unfolding has_values all
one_value line h v = rw (fields_last line h, v)

pub too_few : (n : ℕ) (line : List ℕ) → length line ≤ up_to space line → (n ≡ 1 → ⊥) → has_values n line ≡ false
unfolding has_values all
too_few n line h other = rw (fields_last line h, ne_eqb 1 n (λ e. other (sym e)))

-- a line has a field, be it an empty one
pub fields_some : (line : List ℕ) → 0 < length (fields line)
fields_some line = go (case (leb (length line) (up_to space line)))
  where
    go : Case (leb (length line) (up_to space line)) → 0 < length (fields line)
    go (pass e) = rw (fields_last line (leb-true _ _ e)) (omega arith)
    go (fail e) = rw (fields_more line (leb-false _ _ e)) (omega arith)

pub too_many : (line : List ℕ) → has_values 0 line ≡ false
unfolding has_values
too_many line = rw (ne_eqb (length (fields line)) 0 (λ z. omega (arith, z, fields_some line)))

pub no_value : (n : ℕ) (line : List ℕ) → is_value (first_field line) ≡ false → has_values n line ≡ false
unfolding has_values all
no_value n line v = go (case (leb (length line) (up_to space line)))
  where
    go : Case (leb (length line) (up_to space line)) → (eqb (length (fields line)) n && all is_value (fields line)) ≡ false
    go (pass e) = rw (fields_last line (leb-true _ _ e), v, and_false)
    go (fail e) = rw (fields_more line (leb-false _ _ e), v, and_false)
