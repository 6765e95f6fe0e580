-- Laws of a field's number: digit by digit, and when it is none.
use Prim.Native.Nat.{ℕ, ◌+◌, ◌-◌, ◌*◌, ◌≤◌, ◌<◌}
use native.Mathlib.Nat.{le_refl, le_trans}
use native.Mathlib.Numerals.{add-one}
use native.Mathlib.Omega.{arith}
use mathlib.Core.Path.{◌≡◌, refl, ap, ◌∙◌}
use mathlib.Core.Bool.{true, false, not}
use mathlib.Core.List.{List, [], ◌∷◌}
use Rattle.std.specs.Prelude.{Some, None}
use Rattle.std.specs.Char.{is_ascii_digit}
use lib.Dec.{eqb}
use lib.ListN.{length, get_or, take, drop, drop_of_length-le}
use lib.Seq.{drop-cons}
use borrow.Author.Tests.{le-leb, lt-leb}
use Rattle.lists.specs.Tests.{between}
use Rattle.lists.specs.Lists.{all}
use Rattle.lists.proofs.Tests.{Case, pass, fail, case, and_false}
use Rattle.text.specs.Bytes.{space}
use Rattle.text.specs.Reading.{is_digit, number_from, number, is_number, no_leading_zero, is_value, first_field, value_in}
use Rattle.text.specs.FieldNumber.{number_if}
use Rattle.text.proofs.ReadingLaws.{up_to, first_long}

-- ---- digits
pub digit_is : (b : ℕ) → is_ascii_digit b ≡ is_digit b
unfolding is_digit between
digit_is b = refl

-- ---- the number, digit by digit
pub number_from_lem : (s : List ℕ) (n i : ℕ) → i < length s → number_from n (drop i s) ≡ number_from (n * 10 + (get_or s i 0 - 48)) (drop (i + 1) s)
unfolding number_from
number_from_lem s n i h = rw (add-one, drop-cons s i 0)

pub number_end : (s : List ℕ) (n i : ℕ) → length s ≤ i → number_from n (drop i s) ≡ n
unfolding number_from
number_end s n i h = ap (number_from n) (drop_of_length-le s h)

number_grows : (n : ℕ) (l : List ℕ) → n ≤ number_from n l
unfolding number_from
number_grows n [] = le_refl n
number_grows n (b ∷ l) = le_trans (omega arith) (number_grows (n * 10 + (b - 48)) l)

-- ---- a number or none
pub no_digit : (s : List ℕ) → false ≡ all is_digit s → None ≡ number_if (is_number s) s
unfolding is_number number_if
no_digit s e = rw (← e)

pub too_large : (s : List ℕ) (n : ℕ) (l : List ℕ) → 65536 ≤ n → number s ≡ number_from n l → None ≡ number_if (is_number s) s
unfolding is_number number_if
too_large s n l h e =
    let grown : n ≤ number_from n l = number_grows n l in
    let large : 65535 < number s = omega arith in
    rw (lt-leb (number s) 65535 large, and_false)

pub in_range : (s : List ℕ) (n : ℕ) → true ≡ all is_digit s → number s ≡ n → n < 65536 → Some n ≡ number_if (is_number s) s
unfolding is_number number_if
in_range s n e q h = rw (← e, q, le-leb n 65535 (omega arith))

-- ---- what stands in front
pub no_lead : (s : List ℕ) → length s ≡ 0 → no_leading_zero s ≡ false
unfolding no_leading_zero
no_lead [] h = refl
no_lead (b ∷ s) h = absurd (omega (arith, h))

pub lone_lead : (s : List ℕ) → length s ≡ 1 → no_leading_zero s ≡ true
unfolding no_leading_zero
lone_lead [] h = absurd (omega (arith, h))
lone_lead (b ∷ []) h = refl
lone_lead (b ∷ c ∷ s) h = absurd (omega (arith, h))

pub lead : (s : List ℕ) → 2 ≤ length s → no_leading_zero s ≡ not (eqb (get_or s 0 0) 48)
unfolding no_leading_zero
lead [] h = absurd (omega arith)
lead (b ∷ []) h = absurd (omega arith)
lead (b ∷ c ∷ s) h = refl

-- ---- what the value reader finds
module _ (rest : List ℕ) (end : ℕ) (ends : end ≡ up_to space rest) where
  of_first : number_if (is_value (take end rest)) (take end rest) ≡ number_if (is_value (first_field rest)) (first_field rest)
  unfolding first_field
  of_first = rw ends

  pub other_read : None ≡ number_if (is_value (take end rest)) (take end rest) → None ≡ value_in rest
  unfolding value_in number_if
  other_read none = go (case (is_value (first_field rest))) (none ∙ of_first)
    where
      go : Case (is_value (first_field rest)) → None ≡ number_if (is_value (first_field rest)) (first_field rest) → None ≡ value_in rest
      go (pass v) e = let q = rw v at e in cc
      go (fail v) e = rw v

  pub number_read : (n : ℕ) → Some n ≡ number_if (is_value (take end rest)) (take end rest)
      → Some (record { number = n; end = end }) ≡ value_in rest
  unfolding value_in number_if
  number_read n some = go (case (is_value (first_field rest))) (some ∙ of_first)
    where
      go : Case (is_value (first_field rest)) → Some n ≡ number_if (is_value (first_field rest)) (first_field rest)
          → Some (record { number = n; end = end }) ≡ value_in rest
      go (pass v) e = let q : n ≡ number (first_field rest) = let r = rw v at e in cc in rw (v, q, first_long rest, ends)
      go (fail v) e = let q = rw v at e in cc
