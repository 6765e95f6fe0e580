-- What a text's lines are, what a line's fields are, and which of them are values.
use Rattle.std.specs.Prelude.{ℕ, ◌+◌, ◌-◌, ◌*◌, Bool, true, false, not, ◌&&◌, cond, List, [], ◌∷◌, map, leb, eqb, length, take, Option, Some, None}
use Rattle.lists.specs.Tests.{between}
use Rattle.lists.specs.Lists.{all, first_index}
use Rattle.text.specs.declared.Field.{Field}
use Rattle.text.specs.Bytes.{space, line_end}

-- ---- lines and fields
-- the byte in front of the first part; a part of its own where there is none
unfoldable pub in_front : ℕ → List (List ℕ) → List (List ℕ)
in_front x [] = (x ∷ []) ∷ []
in_front x (part ∷ parts) = (x ∷ part) ∷ parts

-- the parts between the bytes `separator`; `last` is what stands behind the last byte
unfoldable pub cut : ℕ → List (List ℕ) → List ℕ → List (List ℕ)
cut separator last [] = last
cut separator last (x ∷ xs) = let later = cut separator last xs in cond (eqb x separator) ([] ∷ later) (in_front x later)

-- "byte 10 ends a line, or the input does. A byte 10 at the very end opens no further line"
unfoldable pub lines : List ℕ → List (List ℕ)
lines text = cut line_end [] text

-- "one space between": behind a space stands a field, be it an empty one
unfoldable pub fields : List ℕ → List (List ℕ)
fields line = cut space ([] ∷ []) line

-- ---- "Values are decimal, no leading zeros", "a value above 65,535 is another form"
unfoldable pub is_digit : ℕ → Bool
is_digit b = between 48 57 b

-- the number that the digits make behind those of `so_far`
unfoldable pub number_from : ℕ → List ℕ → ℕ
number_from so_far [] = so_far
number_from so_far (b ∷ bs) = number_from (so_far * 10 + (b - 48)) bs

abbrev pub number : List ℕ → ℕ
number field = number_from 0 field

unfoldable pub is_number : List ℕ → Bool
is_number field = all is_digit field && leb (number field) 65535

-- at least one digit, and a 0 in front only by itself
unfoldable pub no_leading_zero : List ℕ → Bool
no_leading_zero [] = false
no_leading_zero (b ∷ []) = true
no_leading_zero (b ∷ c ∷ bs) = not (eqb b 48)

unfoldable pub is_value : List ℕ → Bool
is_value field = no_leading_zero field && is_number field

-- ---- a line of `count` values
unfoldable pub has_values : ℕ → List ℕ → Bool
has_values count line = eqb (length (fields line)) count && all is_value (fields line)

unfoldable pub values_of : List ℕ → List ℕ
values_of line = map number (fields line)

-- ---- what the value reader finds in front of a line's rest: the value of the bytes up to a space or the end, and where they end
unfoldable pub first_field : List ℕ → List ℕ
first_field rest = take (first_index (λ b. eqb b space) rest) rest

unfoldable pub value_in : List ℕ → Option Field
value_in rest = let field = first_field rest in cond (is_value field) (Some (record { number = number field; end = length field })) None
