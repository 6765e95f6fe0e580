-- The whole text: its last byte, its first line, and the lines under it.
use Prim.Native.Nat.{ℕ, ◌+◌, ◌-◌, ◌≤◌}
use native.Mathlib.Omega.{arith}
use mathlib.Core.Path.{◌≡◌, refl, sym, ap, subst, ◌∙◌}
use mathlib.Core.Bool.{Bool, true, false, ◌&&◌}
use mathlib.Core.List.{List, [], ◌∷◌}
use Rattle.std.specs.Prelude.{Ok, Err}
use lib.Dec.{eqb}
use lib.ListN.{length, get_or, drop}
use Rattle.lists.specs.Lists.{all}
use Rattle.lists.proofs.Tests.{no_true, and_false}
use Rattle.lists.proofs.Search.{first_within}
use Rattle.text.specs.Bytes.{line_end}
use Rattle.text.specs.Reading.{lines}
use Rattle.text.specs.Names.{named, first_line_of}
use Rattle.text.proofs.ReadingLaws.{up_to}
use Rattle.text.proofs.NamesLaws.{other_first, first_named, lines_behind}
use Rattle.saved.specs.Row.{column_names, line_ok}
use Rattle.saved.specs.Load.{is_ended, lines_in, rows_in, all_follow, all_programs, form_ok}
use Rattle.text_load.specs.Reading.{lines_ok, ReadsLines, ReadsText}

-- ---- the last byte
pub not_ended : (text : List ℕ) → length text ≡ 0 → is_ended text ≡ false
unfolding is_ended
not_ended [] h = refl
not_ended (x ∷ xs) h = absurd (omega (arith, h))

ended_at : (x : ℕ) (xs : List ℕ) → eqb (get_or (x ∷ xs) (length xs) 0) line_end ≡ is_ended (x ∷ xs)
unfolding is_ended
ended_at x [] = refl
ended_at x (y ∷ ys) = ended_at y ys

pub ended_by : (text : List ℕ) → 1 ≤ length text → is_ended text ≡ eqb (get_or text (length text - 1) 0) line_end
ended_by [] h = absurd (omega arith)
ended_by (x ∷ xs) h =
    let e : length (x ∷ xs) - 1 ≡ length xs = omega arith in sym (ap (λ (i : ℕ). eqb (get_or (x ∷ xs) i 0) line_end) e ∙ ended_at x xs)

-- ---- the form of the whole
module _ (text : List ℕ) where
  abbrev under : List (List ℕ)
  under = lines_in text

  whole : form_ok text ≡ (named column_names (lines text) && is_ended text && lines_ok under)
  unfolding form_ok lines_ok
  whole = regroup (named column_names (lines text)) (is_ended text) (all line_ok under) (all_follow [] (rows_in text)) (all_programs (rows_in text))
    where
      regroup : (a b c d e : Bool) → (a && b && c && d && e) ≡ (a && b && (c && d && e))
      regroup false b c d e = refl
      regroup true false c d e = refl
      regroup true true c d e = refl

  pub other_names : (end : ℕ) → Err end ≡ first_line_of column_names text → (image : List ℕ) → ReadsText text false image
  other_names end e image = record {
    answer = sym (whole ∙ ap (λ (b : Bool). b && is_ended text && lines_ok under) (other_first column_names text end e));
    tables = λ t. no_true t;
  }

  pub no_last_byte : (ended : Bool) → ended ≡ is_ended text → ended ≡ false → (image : List ℕ) → ReadsText text ended image
  no_last_byte ended told f image = record {
    answer = f ∙ sym (whole ∙ ap (λ (b : Bool). named column_names (lines text) && b && lines_ok under) (sym told ∙ f)
        ∙ ap (λ (b : Bool). b && lines_ok under) (and_false (named column_names (lines text))));
    tables = λ t. no_true (sym f ∙ t);
  }

  module _ (end : ℕ) (e : Ok end ≡ first_line_of column_names text) where
    told : (named column_names (lines text) ≡ true) × (end ≡ up_to line_end text)
    told = first_named column_names text end e

    pub read_under : is_ended text ≡ true → (ok : Bool) (image : List ℕ) → ReadsLines (lines (drop (end + 1) text)) ok image → ReadsText
        text ok image
    read_under last ok image r =
        let same : lines_in text ≡ lines (drop (end + 1) text) = lines_behind text end told.1 in
        let r' : ReadsLines (lines_in text) ok image = subst (λ (ls : List (List ℕ)). ReadsLines ls ok image) (sym same) r in
        record {
          answer = r'.answer ∙ sym (whole ∙ λ i. told.0 i && last i && lines_ok under);
          tables = r'.tables;
        }

    pub start_inside : end + 1 ≤ length text + 1
    start_inside = omega (arith, told.1, first_within (λ b. eqb b line_end) text)
