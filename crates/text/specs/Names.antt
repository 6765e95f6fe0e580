-- A text's first line, which must be the names of its columns, and the lines behind it.
use Rattle.std.specs.Prelude.{ℕ, Bool, false, cond, List, [], ◌∷◌, eqb, Result, Ok, Err}
use Rattle.lists.specs.Lists.{first_index}
use Rattle.text.specs.Bytes.{line_end, same_bytes}
use Rattle.text.specs.Reading.{lines}

-- "The first line must equal, byte for byte, the names"
unfoldable pub named : List ℕ → List (List ℕ) → Bool
named names [] = false
named names (line ∷ later) = same_bytes line names

unfoldable pub behind_names : List (List ℕ) → List (List ℕ)
behind_names [] = []
behind_names (line ∷ later) = later

-- what the code finds: whether the first line is the names, and where it ends
unfoldable pub first_line_of : List ℕ → List ℕ → Result ℕ ℕ
first_line_of names text =
    let end = first_index (λ b. eqb b line_end) text in
    cond (named names (lines text)) (Ok end) (Err end)
