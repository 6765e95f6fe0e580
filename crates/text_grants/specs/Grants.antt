-- What the walk from the taken grants is lent and leaves: the text so far, and the sum of the counts of the depth 0 lines.
use Rattle.std.specs.Prelude.{ℕ, ◌+◌, ◌*◌, ◌/◌, ◌%◌, ◌≤◌, ◌≡◌, List, length}
use Rattle.lists.specs.Lists.{total}
use Rattle.tables.specs.declared.{Name.Name, Tables.Tables}
use Rattle.tables.specs.Kinds.{is_taken}
use Rattle.tables.specs.Lookup.{lookup, names_of}
use Rattle.text_marks.specs.Marks.{mark_bytes, marked_in, unmarked}
use Rattle.report.specs.Report.{line_room, report_room}
use Rattle.report.specs.Marked.{visits, visit}
use Rattle.text_loans.specs.Walk.{Ordered, Printed}
use Rattle.text_grants.specs.declared.Printing.{Printing}

-- the taken grants of a program, programs counted over all pads
abbrev pub taken_of : Tables → ℕ → List Name
taken_of t program = names_of (λ k. is_taken k.kind) t (program / 8) (program % 8)

abbrev pub sheets_of : Tables → List Name → ℕ
sheets_of t names = total (λ n. (lookup t n).count) names

-- a line for each place that is not marked has room
pub record Ready (image marks : List ℕ) (at : ℕ) : Type 0 where
  pub tables : Ordered image
  pub scratch : length marks ≡ mark_bytes
  pub room : at + line_room * unmarked (marked_in marks) ≤ report_room

-- names printed at depth 0, with their loans, and their sheets added
pub record Puts (t : Tables) (names : List Name) (marks marks' out out' : List ℕ) (before after : Printing) : Type 0 where
  pub text : Printed (λ left. visits (visit t left 0) (marked_in marks) names) marks marks' out out' before.end after.end
  pub sheets : after.sheets ≡ before.sheets + sheets_of t names
