-- Reading and writing agree: a number that was written is read as it was, and a field and a line that are read are what writing their values
-- gives. That a line of values that was written is read as it was: WrittenValues.
use Prim.Native.Nat.{ℕ, ◌≤◌, ◌<◌}
use native.Mathlib.Omega.{arith}
use mathlib.Core.Path.{◌≡◌, refl, sym, ap, ◌∙◌}
use mathlib.Core.Bool.{true, not, ◌&&◌}
use mathlib.Core.List.{List, [], ◌∷◌, ◌++◌, map, append_assoc}
use lib.Dec.{leb, eqb}
use lib.ListN.{length, length-map}
use borrow.Author.Tests.{leb-true, le-leb, ne_eqb}
use Rattle.lists.specs.Lists.{all}
use Rattle.lists.proofs.Tests.{and_l, and_r, and_intro, not_test, between_low}
use Rattle.lists.proofs.Everywhere.{all_append}
use Rattle.text.specs.Bytes.{space, line_end}
use Rattle.text.specs.Reading.{fields, is_digit, number, is_number, no_leading_zero, is_value, has_values, values_of}
use Rattle.text.specs.Writing.{places, decimal, behind, values_line}
use Rattle.text.proofs.ReadingLaws.{fields_some}
use Rattle.round_trip.proofs.DecimalLaws.{decimal_value, decimal_all, digits_back, places_field}
use Rattle.round_trip.proofs.JoinedFields.{without, joined, joined_fields}

-- ---- numbers
pub number_decimal : (n : ℕ) → n ≤ 65535 → (is_value (decimal n) ≡ true) × (number (decimal n) ≡ n)
unfolding is_value is_number
number_decimal n h =
    let v = decimal_value n h in
    (and_intro v.0 (and_intro (decimal_all n) (le-leb (number (decimal n)) 65535 (omega (arith, v.1)))), v.1)

pub decimal_number : (field : List ℕ) → is_value field ≡ true → field ≡ decimal (number field)
unfolding is_value is_number decimal
decimal_number field e =
    let n = number field in
    let a = and_r (no_leading_zero field) (all is_digit field && leb n 65535) e in
    let d = and_l (all is_digit field) (leb n 65535) a in
    let h = leb-true n 65535 (and_r (all is_digit field) (leb n 65535) a) in
    let k : length field ≡ places n = places_field field (and_l (no_leading_zero field) (all is_digit field && leb n 65535) e) d h in
    sym (rw k at (digits_back field d))

-- ---- bytes of a line
digits_without : (x : ℕ) → x ≤ 47 → (l : List ℕ) → all is_digit l ≡ true → without x l ≡ true
unfolding all is_digit
digits_without x h [] e = refl
digits_without x h (b ∷ l) e =
    let low = between_low 48 57 b (and_l (is_digit b) (all is_digit l) e) in
    and_intro (not_test (eqb b x) (ne_eqb b x (λ q. omega arith))) (digits_without x h l (and_r (is_digit b) (all is_digit l) e))

-- a line without its end
abbrev pub line_of : List ℕ → List ℕ
line_of values = joined (map decimal values)

pub line_ended : (values : List ℕ) → 0 < length values → values_line values ≡ line_of values ++ line_end ∷ []
unfolding values_line behind joined
line_ended [] h = absurd (omega arith)
line_ended (v ∷ []) h = refl
line_ended (v ∷ w ∷ vs) h =
    ap (λ (l : List ℕ). decimal v ++ space ∷ l) (line_ended (w ∷ vs) (omega arith))
    ∙ sym (append_assoc (decimal v) (space ∷ line_of (w ∷ vs)) (line_end ∷ []))

pub line_without : (values : List ℕ) → without line_end (line_of values) ≡ true
unfolding joined all
line_without [] = refl
line_without (v ∷ []) = digits_without line_end (omega arith) (decimal v) (decimal_all v)
line_without (v ∷ w ∷ vs) =
    all_append (λ b. not (eqb b line_end)) (decimal v) (space ∷ line_of (w ∷ vs))
    (digits_without line_end (omega arith) (decimal v) (decimal_all v)) (line_without (w ∷ vs))

pub fields_without : (values : List ℕ) → all (without space) (map decimal values) ≡ true
unfolding all
fields_without [] = refl
fields_without (v ∷ vs) = and_intro (digits_without space (omega arith) (decimal v) (decimal_all v)) (fields_without vs)

-- ---- values
numbers_decimals : (fs : List (List ℕ)) → all is_value fs ≡ true → fs ≡ map decimal (map number fs)
unfolding all
numbers_decimals [] e = refl
numbers_decimals (f ∷ fs) e =
    let d = decimal_number f (and_l (is_value f) (all is_value fs) e) in
    let ih = numbers_decimals fs (and_r (is_value f) (all is_value fs) e) in
    λ k. d k ∷ ih k

-- a line that is read is what is written of its values, and has no byte 10
module _ (n : ℕ) (line : List ℕ) (e : has_values n line ≡ true) where
  line_is : line ≡ line_of (values_of line)
  unfolding has_values values_of
  line_is =
      sym (joined_fields line)
      ∙ ap joined (numbers_decimals (fields line) (and_r (eqb (length (fields line)) n) (all is_value (fields line)) e))

  pub written_values : line ++ line_end ∷ [] ≡ values_line (values_of line)
  unfolding values_of
  written_values =
      let h : 0 < length (values_of line) = omega (arith, fields_some line, length-map (fields line) number) in
      ap (λ (l : List ℕ). l ++ line_end ∷ []) line_is ∙ sym (line_ended (values_of line) h)

  pub values_unended : without line_end line ≡ true
  values_unended = ap (without line_end) line_is ∙ line_without (values_of line)
