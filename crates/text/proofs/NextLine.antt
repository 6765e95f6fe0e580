-- The next line of a text that is read line by line: it begins at `from` and ends `k` bytes on, at a byte 10 or where the text does.
use Prim.Native.Nat.{ℕ, suc, ◌+◌, ◌-◌, ◌≤◌, ◌<◌}
use native.Mathlib.Omega.{arith}
use mathlib.Core.Path.{◌≡◌, ap, ◌∙◌}
use mathlib.Core.List.{List, [], ◌∷◌}
use lib.Dec.{eqb}
use lib.ListN.{length, take, drop, length-drop, drop_of_length-le}
use lib.Seq.{drop-drop}
use Rattle.lists.proofs.Search.{first_within}
use Rattle.lists.proofs.Front.{rest_part}
use Rattle.text.specs.Bytes.{line_end}
use Rattle.text.specs.Reading.{lines}
use Rattle.text.proofs.ReadingLaws.{up_to, lines_first, lines_none}

-- behind the last line
pub no_line : (text : List ℕ) (from : ℕ) → length text ≤ from → lines (drop from text) ≡ []
no_line text from past = ap lines (drop_of_length-le text past) ∙ lines_none

module _ (text : List ℕ) (from k : ℕ) (told : k ≡ up_to line_end (take (length text - from) (drop from text))) (more : from < length text) where
  found : k ≡ up_to line_end (drop from text)
  found = told ∙ ap (up_to line_end) (rest_part text from)

  -- the line as the code lends it
  abbrev pub line_at : List ℕ
  line_at = take (from + k - from) (drop from text)

  pub line_inside : from + k ≤ length text
  line_inside = omega (arith, found, first_within (λ b. eqb b line_end) (drop from text), length-drop from text)

  pub line_first : lines (drop from text) ≡ line_at ∷ lines (drop (from + k + 1) text)
  line_first =
      let u = up_to line_end (drop from text) in
      let e : from + suc u ≡ from + k + 1 = omega (arith, found) in
      let n : u ≡ from + k - from = omega (arith, found) in
      let tail : drop (suc u) (drop from text) ≡ drop (from + k + 1) text = drop-drop (suc u) from text ∙ ap (λ (m : ℕ). drop m text) e in
      lines_first (drop from text) (omega (arith, length-drop from text)) ∙ λ i. take (n i) (drop from text) ∷ lines (tail i)
