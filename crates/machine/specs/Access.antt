-- Op 5, read, and op 6, write (ticket, first): the pad's own tests, then the dock's check; then what is copied. "Trusting the pad's check
-- and skipping the dock's" is a trap of this trade.
use Rattle.std.specs.Prelude.{ℕ, ◌+◌, not, leb}
use Rattle.rights.specs.Rules.{rights_of, within}
use Rattle.tables.specs.declared.Tables.{Tables}
use Rattle.tables.specs.Kinds.{is_live, is_recall}
use Rattle.machine.specs.declared.Request.{Request}
use Rattle.machine.specs.State.{State, Outcome, accepted, sheet_at, put_sheets, asked}
use Rattle.machine.specs.Refusal.{◌when◌else◌}
use Rattle.machine.specs.Dock.{dock_refusal}

-- "The sheet is the ticket's first + the request's first."
abbrev pub sheet_of : Tables → Request → ℕ
sheet_of t r = (asked t r).first + r.first

-- "4; 5 a recall; 6 first is not below the count; 7 the right is lacking; 12 no entry of that dock name." The 12 is the dock's: for
-- tables in order the dock's check adds nothing else.
unfoldable pub access_refusal : ℕ → Tables → Request → ℕ
access_refusal right t r =
    let k = asked t r in
    4 when not (is_live k.kind) else
    5 when is_recall k.kind else
    6 when leb k.count r.first else
    7 when not (within (rights_of right) k.rights) else
    dock_refusal t k.dock (sheet_of t r) right

-- "Read copies the sheet into the buffer."
unfoldable pub after_read : State → Request → Outcome
after_read s r = accepted (record { tables = s.tables; store = s.store; sheet = sheet_at (sheet_of s.tables r) s.store }) 0 0

-- "Write copies the buffer into the sheet."
unfoldable pub after_write : State → Request → Outcome
after_write s r = accepted (record { tables = s.tables; store = put_sheets (sheet_of s.tables r) s.sheet s.store; sheet = s.sheet }) 0 0
