-- What is claimed of the report of tables in order: it lists exactly the grants that the dock would let through, each once.
use Rattle.std.specs.Prelude.{ℕ, ◌+◌, ◌≤◌, ◌<◌, ◌≡◌, ◌↔◌, Bool, true, ◌&&◌, List, map, length}
use Rattle.lists.specs.Members.{In, Once}
use Rattle.rights.specs.Rules.{rights_of, within}
use Rattle.tables.specs.declared.{Name.Name, Tables.Tables}
use Rattle.tables.specs.Names.{is_program}
use Rattle.tables.specs.Same.{SameTables}
use Rattle.tables.specs.Sheets.{sheets_free}
use Rattle.machine.specs.declared.Request.{Request}
use Rattle.machine.specs.State.{asked_name, asked}
use Rattle.machine.specs.Operation.{operation_of, used_by, fields_ok}
use Rattle.machine.specs.Step.{request_refusal}
use Rattle.preservation.specs.InOrder.{InOrder}
use Rattle.report.specs.Rows.{Row, is_listed, rows}
use Rattle.report.specs.Report.{taken_in, report_room, report}

abbrev pub printed : Tables → List Name
printed t = map (λ (r : Row). r.name) (rows t)

-- every grant is printed at most once
abbrev pub PrintedOnce : Type 0
PrintedOnce = (t : Tables) → InOrder t → Once (printed t)

-- printed are exactly the live grants whose dock name is in the dock
abbrev pub PrintedListed : Type 0
PrintedListed = (t : Tables) → InOrder t → (n : Name) → In n (printed t) ↔ (is_listed t n ≡ true)

-- ---- "The ward manager wants to see who can read what."
-- the asker's ticket is a row, the row has the right, and the sheet asked for is one of its count
pub record Shown (t : Tables) (r : Request) (right : ℕ) : Type 0 where
  pub row : In (asked_name r) (printed t)
  pub held : within (rights_of right) (asked t r).rights ≡ true
  pub sheet : r.first < (asked t r).count

-- past 1 and 3
unfoldable pub in_form : Request → Bool
in_form r = is_program r.pad r.program && fields_ok (used_by (operation_of r.op)) r

-- a read in form is accepted exactly if it is shown with right 1, a write with right 2
abbrev pub ReadIfShown : Type 0
ReadIfShown = (t : Tables) → InOrder t → (r : Request) → in_form r ≡ true → r.op ≡ 5 → (request_refusal t r ≡ 0) ↔ Shown t r 1

abbrev pub WrittenIfShown : Type 0
WrittenIfShown = (t : Tables) → InOrder t → (r : Request) → in_form r ≡ true → r.op ≡ 6 → (request_refusal t r ≡ 0) ↔ Shown t r 2

-- ---- "and the two make 256"
abbrev pub TakenAndFree : Type 0
TakenAndFree = (t : Tables) → InOrder t → taken_in t (rows t) + sheets_free t.entries ≡ 256

-- ---- a buffer of that many bytes is never too short
abbrev pub ReportShort : Type 0
ReportShort = (t : Tables) → InOrder t → length (report t) ≤ report_room

-- ---- where tickets and entries are kept does not count
abbrev pub SameReport : Type 0
SameReport = (t u : Tables) → InOrder t → InOrder u → SameTables t u → report t ≡ report u
