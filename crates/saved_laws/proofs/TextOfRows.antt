-- A text in form is the text of its rows: the bytes of "any text that loads is what saving would write".
use Prim.Native.Nat.{ℕ}
use native.Mathlib.Omega.{arith}
use mathlib.Core.Path.{◌≡◌, refl, sym, ap, ◌∙◌}
use mathlib.Core.Bool.{Bool, true, false, cond}
use mathlib.Core.List.{List, [], ◌∷◌, ◌++◌, map, flat_map, append_assoc}
use lib.Dec.{eqb}
use lib.ListN.{length, length-map}
use borrow.Author.Tests.{eqb-true}
use Rattle.lists.specs.Lists.{all}
use Rattle.lists.proofs.Tests.{Case, pass, fail, case, no_true, and_l, and_r}
use Rattle.text.specs.Bytes.{line_end, same_bytes}
use Rattle.text.specs.Reading.{in_front, cut, lines, fields, number, is_value, has_values, values_of}
use Rattle.text.specs.Names.{named, behind_names}
use Rattle.text.specs.Writing.{values_line}
use Rattle.round_trip.proofs.RoundTrip.{written_values}
use Rattle.saved.specs.Row.{column_names, columns, row_of, columns_of, row_ok, line_ok}
use Rattle.saved.specs.Save.{text_of}
use Rattle.saved.specs.Load.{is_ended, lines_in, rows_in, form_ok}

-- lines, each with its byte 10
abbrev ended : List ℕ → List ℕ
ended line = line ++ line_end ∷ []

-- ---- a text with a last byte 10 is its lines
in_front_lem : (x y : ℕ) (rest : List ℕ) (parts : List (List ℕ)) → flat_map ended parts ≡ y ∷ rest → flat_map ended (in_front x parts) ≡ x ∷ y ∷ rest
unfolding flat_map in_front
in_front_lem x y rest [] e = no_cons e
  where
    is_cons : List ℕ → Bool
    is_cons [] = false
    is_cons (z ∷ zs) = true

    no_cons : [] ≡ y ∷ rest → x ∷ line_end ∷ [] ≡ x ∷ y ∷ rest
    no_cons h = no_true (ap is_cons h)
in_front_lem x y rest (p ∷ ps) e = ap (λ (l : List ℕ). x ∷ l) e

pub lines_of_ended : (text : List ℕ) → is_ended text ≡ true → flat_map ended (lines text) ≡ text
unfolding is_ended lines cut flat_map
lines_of_ended [] e = no_true e
lines_of_ended (x ∷ []) e = rw e (ap (λ (b : ℕ). b ∷ []) (sym (eqb-true x line_end e)))
lines_of_ended (x ∷ y ∷ rest) e = go (lines_of_ended (y ∷ rest) e) (case (eqb x line_end))
  where
    go : flat_map ended (cut line_end [] (y ∷ rest)) ≡ y ∷ rest → Case (eqb x line_end)
        → flat_map ended (cond (eqb x line_end) ([] ∷ cut line_end [] (y ∷ rest)) (in_front x (cut line_end [] (y ∷ rest)))) ≡ x ∷ y ∷ rest
    go h (pass p) = rw p (λ i. sym (eqb-true x line_end p) i ∷ h i)
    go h (fail p) = rw p (in_front_lem x y rest (cut line_end [] (y ∷ rest)) h)

-- ---- a line in form is the line of its row
columns_back : (v : List ℕ) → length v ≡ columns → columns_of (row_of v) ≡ v
columns_back (a ∷ b ∷ c ∷ d ∷ e ∷ f ∷ g ∷ h ∷ i ∷ j ∷ k ∷ []) p = refl
columns_back (a ∷ b ∷ c ∷ d ∷ e ∷ f ∷ g ∷ h ∷ i ∷ j ∷ k ∷ l ∷ v) p = absurd (omega (arith, p))
columns_back [] p = absurd (omega (arith, p))
columns_back (a ∷ []) p = absurd (omega (arith, p))
columns_back (a ∷ b ∷ []) p = absurd (omega (arith, p))
columns_back (a ∷ b ∷ c ∷ []) p = absurd (omega (arith, p))
columns_back (a ∷ b ∷ c ∷ d ∷ []) p = absurd (omega (arith, p))
columns_back (a ∷ b ∷ c ∷ d ∷ e ∷ []) p = absurd (omega (arith, p))
columns_back (a ∷ b ∷ c ∷ d ∷ e ∷ f ∷ []) p = absurd (omega (arith, p))
columns_back (a ∷ b ∷ c ∷ d ∷ e ∷ f ∷ g ∷ []) p = absurd (omega (arith, p))
columns_back (a ∷ b ∷ c ∷ d ∷ e ∷ f ∷ g ∷ h ∷ []) p = absurd (omega (arith, p))
columns_back (a ∷ b ∷ c ∷ d ∷ e ∷ f ∷ g ∷ h ∷ i ∷ []) p = absurd (omega (arith, p))
columns_back (a ∷ b ∷ c ∷ d ∷ e ∷ f ∷ g ∷ h ∷ i ∷ j ∷ []) p = absurd (omega (arith, p))

values_long : (line : List ℕ) → has_values columns line ≡ true → length (values_of line) ≡ columns
unfolding has_values values_of
values_long line v =
    length-map (fields line) number ∙ eqb-true (length (fields line)) columns (and_l (eqb (length (fields line)) columns) (all is_value (fields line)) v)

line_back : (line : List ℕ) → line_ok line ≡ true → values_line (columns_of (row_of (values_of line))) ≡ ended line
unfolding line_ok
line_back line e =
    let v : has_values columns line ≡ true = and_l (has_values columns line) (row_ok (row_of (values_of line))) e in
    ap values_line (columns_back (values_of line) (values_long line v)) ∙ sym (written_values columns line v)

lines_back : (ls : List (List ℕ)) → all line_ok ls ≡ true → flat_map (λ r. values_line (columns_of r)) (map (λ line. row_of (values_of line)) ls) ≡ flat_map ended ls
unfolding all flat_map
lines_back [] e = refl
lines_back (l ∷ ls) e =
    let h = line_back l (and_l (line_ok l) (all line_ok ls) e) in
    let t = lines_back ls (and_r (line_ok l) (all line_ok ls) e) in
    λ i. h i ++ t i

-- ---- the whole text
same_bytes_lem : (a b : List ℕ) → same_bytes a b ≡ true → a ≡ b
unfolding same_bytes
same_bytes_lem [] [] e = refl
same_bytes_lem [] (y ∷ ys) e = no_true e
same_bytes_lem (x ∷ xs) [] e = no_true e
same_bytes_lem (x ∷ xs) (y ∷ ys) e =
    let h = eqb-true x y (and_l (eqb x y) (same_bytes xs ys) e) in
    let t = same_bytes_lem xs ys (and_r (eqb x y) (same_bytes xs ys) e) in
    λ i. h i ∷ t i

whole : (ls : List (List ℕ)) → named column_names ls ≡ true → all line_ok (behind_names ls) ≡ true
    → text_of (map (λ line. row_of (values_of line)) (behind_names ls)) ≡ flat_map ended ls
unfolding named behind_names text_of flat_map
whole [] n e = no_true n
whole (l ∷ ls) n e =
    let h = same_bytes_lem l column_names n in
    let t = lines_back ls e in
    (λ i. sym h i ++ line_end ∷ t i) ∙ sym (append_assoc l (line_end ∷ []) (flat_map ended ls))

pub text_of_rows : (text : List ℕ) → form_ok text ≡ true → text_of (rows_in text) ≡ text
unfolding form_ok
text_of_rows text f =
    let n : named column_names (lines text) ≡ true = search (and_l, and_r) depth 6 in
    let e : is_ended text ≡ true = search (and_l, and_r) depth 6 in
    let a : all line_ok (lines_in text) ≡ true = search (and_l, and_r) depth 6 in
    whole (lines text) n a ∙ lines_of_ended text e
