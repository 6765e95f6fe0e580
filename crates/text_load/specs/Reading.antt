-- What the reading of a saved text answers and leaves: whether its lines have the form, and if so the tables that they make, with each grant's
-- own name as its dock name.
use Rattle.std.specs.Prelude.{ℕ, ◌≡◌, Bool, true, ◌&&◌, List, [], map}
use Rattle.lists.specs.Lists.{all}
use Rattle.image_write.specs.Shows.{Holds}
use Rattle.text.specs.Reading.{values_of}
use Rattle.saved.specs.declared.Row.{Row}
use Rattle.saved.specs.Row.{row_of, line_ok}
use Rattle.saved.specs.Load.{all_follow, all_programs, rows_in, form_ok}
use Rattle.text_fill.specs.Filling.{bare_tables}

abbrev pub rows_of_lines : List (List ℕ) → List Row
rows_of_lines ls = map (λ line. row_of (values_of line)) ls

-- the lines under the names
unfoldable pub lines_ok : List (List ℕ) → Bool
lines_ok ls = all line_ok ls && all_follow [] (rows_of_lines ls) && all_programs (rows_of_lines ls)

pub record ReadsLines (ls : List (List ℕ)) (ok : Bool) (image : List ℕ) : Type 0 where
  pub answer : ok ≡ lines_ok ls
  pub tables : ok ≡ true → Holds image (bare_tables (rows_of_lines ls))

-- the whole text
pub record ReadsText (text : List ℕ) (ok : Bool) (image : List ℕ) : Type 0 where
  pub answer : ok ≡ form_ok text
  pub tables : ok ≡ true → Holds image (bare_tables (rows_in text))
