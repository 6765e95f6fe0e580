-- The text of rows in form is in form, and its rows are these rows: the bytes of "Loading what was saved restores the tables".
use Prim.Native.Nat.{ℕ}
use mathlib.Core.Path.{◌≡◌, refl, sym, ap, ◌∙◌}
use mathlib.Core.Bool.{true}
use mathlib.Core.List.{List, [], ◌∷◌, ◌++◌, map, flat_map, append_assoc}
use lib.Dec.{leb}
use borrow.Author.Tests.{eq-eqb}
use Rattle.lists.specs.Lists.{all}
use Rattle.lists.specs.Members.{In, first, later}
use Rattle.lists.proofs.Tests.{and_intro}
use Rattle.lists.proofs.MemberLaws.{all_map, map_back}
use Rattle.text.specs.Bytes.{bytes, line_end, same_bytes}
use Rattle.text.specs.Reading.{cut, lines, has_values, values_of}
use Rattle.text.specs.Names.{named, behind_names}
use Rattle.text.specs.Writing.{values_line}
use Rattle.round_trip.proofs.JoinedFields.{without, first_line_lem}
use Rattle.round_trip.proofs.RoundTrip.{line_of, written_values, values_unended}
use Rattle.round_trip.proofs.WrittenValues.{OneLine, values_written}
use Rattle.saved.specs.declared.Row.{Row}
use Rattle.saved.specs.Row.{column_names, columns, row_of, columns_of, row_ok, line_ok}
use Rattle.saved.specs.Save.{text_of}
use Rattle.saved.specs.Load.{is_ended, lines_in, rows_in, all_follow, all_programs, form_ok}

-- a row that may stand in a text: in form, its columns of 16 bits
pub record Writable (r : Row) : Type 0 where
  pub ok : row_ok r ≡ true
  pub fits : all (λ x. leb x 65535) (columns_of r) ≡ true

abbrev pub AllWritable : List Row → Type 0
AllWritable rs = (r : Row) → In r rs → Writable r

-- ---- one line
abbrev line_for : Row → List ℕ
line_for r = line_of (columns_of r)

module _ (r : Row) (w : Writable r) where
  one : OneLine (columns_of r) (values_line (columns_of r)) (line_for r)
  one = values_written r.kind _ w.fits

  counted : has_values columns (line_for r) ≡ true
  counted = one.counted

  row_back : row_of (values_of (line_for r)) ≡ r
  row_back = ap row_of one.read

  line_ok_lem : line_ok (line_for r) ≡ true
  unfolding line_ok
  line_ok_lem = and_intro counted (ap row_ok row_back ∙ w.ok)

  line_ended : values_line (columns_of r) ≡ line_for r ++ line_end ∷ []
  line_ended = sym (written_values columns (line_for r) counted ∙ ap values_line one.read)

  line_whole : without line_end (line_for r) ≡ true
  line_whole = values_unended columns (line_for r) counted

  -- the line in front of others
  line_first : (rest : List ℕ) → values_line (columns_of r) ++ rest ≡ line_for r ++ line_end ∷ rest
  line_first rest = ap (λ (l : List ℕ). l ++ rest) line_ended ∙ append_assoc (line_for r) (line_end ∷ []) rest

-- ---- all lines
abbrev lines_of : List Row → List ℕ
lines_of rs = flat_map (λ r. values_line (columns_of r)) rs

lines_back : (rs : List Row) → AllWritable rs → lines (lines_of rs) ≡ map line_for rs
unfolding flat_map lines cut
lines_back [] w = refl
lines_back (r ∷ rs) w =
    let h = w r (first refl) in
    ap lines (line_first r h (lines_of rs)) ∙ first_line_lem (line_for r) (lines_of rs) (line_whole r h)
    ∙ ap (λ (l : List (List ℕ)). line_for r ∷ l) (lines_back rs (λ x m. w x (later m)))

names_whole : without line_end column_names ≡ true
unfolding column_names bytes all
names_whole = refl

text_lines : (rs : List Row) → AllWritable rs → lines (text_of rs) ≡ column_names ∷ map line_for rs
unfolding text_of
text_lines rs w =
    first_line_lem column_names (lines_of rs) names_whole ∙ ap (λ (l : List (List ℕ)). column_names ∷ l) (lines_back rs w)

pub rows_of_text : (rs : List Row) → AllWritable rs → rows_in (text_of rs) ≡ rs
unfolding behind_names
rows_of_text rs w =
    ap (λ (ls : List (List ℕ)). map (λ line. row_of (values_of line)) (behind_names ls)) (text_lines rs w)
    ∙ map_back line_for (λ line. row_of (values_of line)) rs (λ r m. row_back r (w r m))

-- ---- the last byte
ended_behind : (xs : List ℕ) (y : ℕ) (ys : List ℕ) → is_ended (xs ++ y ∷ ys) ≡ is_ended (y ∷ ys)
unfolding is_ended
ended_behind [] y ys = refl
ended_behind (x ∷ []) y ys = refl
ended_behind (x ∷ z ∷ xs) y ys = ended_behind (z ∷ xs) y ys

lines_ended : (rs : List Row) → AllWritable rs → is_ended (line_end ∷ lines_of rs) ≡ true
unfolding is_ended flat_map
lines_ended [] w = refl
lines_ended (r ∷ rs) w =
    ap (λ (l : List ℕ). is_ended (line_end ∷ l)) (line_first r (w r (first refl)) (lines_of rs))
    ∙ ended_behind (line_end ∷ line_for r) line_end (lines_of rs) ∙ lines_ended rs (λ x m. w x (later m))

same_refl_lem : (l : List ℕ) → same_bytes l l ≡ true
unfolding same_bytes
same_refl_lem [] = refl
same_refl_lem (x ∷ xs) = and_intro (eq-eqb x x refl) (same_refl_lem xs)

named_first : (ls : List (List ℕ)) → named column_names (column_names ∷ ls) ≡ true
unfolding named
named_first ls = same_refl_lem column_names

under_first : (ls : List (List ℕ)) → all line_ok ls ≡ true → all line_ok (behind_names (column_names ∷ ls)) ≡ true
unfolding behind_names
under_first ls e = e

text_ended : (rs : List Row) → AllWritable rs → is_ended (text_of rs) ≡ true
unfolding text_of
text_ended rs w = ended_behind column_names line_end (lines_of rs) ∙ lines_ended rs w

-- ---- the whole text
pub text_in_form : (rs : List Row) → AllWritable rs → all_follow [] rs ≡ true → all_programs rs ≡ true → form_ok (text_of rs) ≡ true
unfolding form_ok
text_in_form rs w f p =
    let l = text_lines rs w in
    let a : named column_names (lines (text_of rs)) ≡ true = ap (named column_names) l ∙ named_first (map line_for rs) in
    let b : is_ended (text_of rs) ≡ true = text_ended rs w in
    let c : all line_ok (lines_in (text_of rs)) ≡ true
    = ap (λ (ls : List (List ℕ)). all line_ok (behind_names ls)) l ∙ under_first (map line_for rs) (all_map line_ok line_for rs (λ r m. line_ok_lem r (w r m))) in
    let d : all_follow [] (rows_in (text_of rs)) ≡ true = ap (all_follow []) (rows_of_text rs w) ∙ f in
    let e : all_programs (rows_in (text_of rs)) ≡ true = ap all_programs (rows_of_text rs w) ∙ p in
    and_intro (and_intro (and_intro (and_intro a b) c) d) e
