-- A line of values that was written is read as it was.
use Prim.Native.Nat.{ℕ}
use native.Mathlib.Omega.{arith}
use mathlib.Core.Path.{◌≡◌, refl}
use mathlib.Core.Bool.{true}
use mathlib.Core.List.{List, [], ◌∷◌, map}
use lib.Dec.{leb}
use lib.ListN.{length, length-map}
use borrow.Author.Tests.{leb-true, eq-eqb}
use Rattle.lists.specs.Lists.{all}
use Rattle.lists.proofs.Tests.{and_l, and_r, and_intro}
use Rattle.text.specs.Reading.{lines, fields, number, is_value, has_values, values_of}
use Rattle.text.specs.Writing.{decimal, values_line}
use Rattle.round_trip.proofs.JoinedFields.{one_line, fields_joined}
use Rattle.round_trip.proofs.RoundTrip.{number_decimal, line_of, line_ended, line_without, fields_without}

decimals_values : (values : List ℕ) → all (λ x. leb x 65535) values ≡ true
    → (all is_value (map decimal values) ≡ true) × (map number (map decimal values) ≡ values)
unfolding all
decimals_values [] e = (refl, refl)
decimals_values (v ∷ vs) e =
    let d = number_decimal v (leb-true v 65535 (and_l (leb v 65535) (all (λ x. leb x 65535) vs) e)) in
    let ih = decimals_values vs (and_r (leb v 65535) (all (λ x. leb x 65535) vs) e) in
    (and_intro d.0 ih.0, λ k. d.1 k ∷ ih.1 k)

-- what was written is one line of just these values
pub record OneLine (values text line : List ℕ) : Type 0 where
  pub only : lines text ≡ line ∷ []
  pub counted : has_values (length values) line ≡ true
  pub read : values_of line ≡ values

pub values_written : (v : ℕ) (vs : List ℕ) → all (λ x. leb x 65535) (v ∷ vs) ≡ true
    → OneLine (v ∷ vs) (values_line (v ∷ vs)) (line_of (v ∷ vs))
unfolding has_values values_of
values_written v vs e =
    let values : List ℕ = v ∷ vs in
    let f : fields (line_of values) ≡ map decimal values = fields_joined (decimal v) (map decimal vs) (fields_without values) in
    let d = decimals_values values e in
    record {
      only = rw (line_ended values (omega arith)) (one_line (line_of values) (line_without values));
      counted = rw f (and_intro (eq-eqb (length (map decimal values)) (length values) (length-map values decimal)) d.0);
      read = rw f d.1;
    }
