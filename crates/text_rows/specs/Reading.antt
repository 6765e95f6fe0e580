-- What is read from a line of the saved text.
use Rattle.std.specs.Prelude.{ℕ, cond, List, Option, Some, None}
use Rattle.text.specs.Reading.{values_of}
use Rattle.saved.specs.declared.Row.{Row}
use Rattle.saved.specs.Row.{row_of, line_ok}

-- the row of a line that has the form of one
unfoldable pub row_in : List ℕ → Option Row
row_in line = cond (line_ok line) (Some (row_of (values_of line))) None
