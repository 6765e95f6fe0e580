-- Loading: the tables of a text, or its refusal.
use Rattle.std.specs.Prelude.{ℕ, ◌/◌, ◌%◌, Bool, true, false, not, ◌&&◌, cond, List, [], ◌∷◌, map, ltb, eqb, get_or}
use Rattle.lists.specs.Lists.{all, some, first_index, keep, count_of, filled}
use Rattle.lists.specs.Parts.{tabulate}
use Rattle.rights.specs.Rules.{rights_of}
use Rattle.tables.specs.declared.{Name.Name, Ticket.Ticket, Program.Program, Entry.Entry, Tables.Tables}
use Rattle.tables.specs.Names.{no_name, free, no_entry, entry_for, empty_tables}
use Rattle.tables.specs.Chains.{chain_head}
use Rattle.tables.specs.Order.{in_order}
use Rattle.machine.specs.Refusal.{◌when◌else◌}
use Rattle.image.specs.Image.{kind_of}
use Rattle.text.specs.Bytes.{line_end}
use Rattle.text.specs.Reading.{lines, values_of}
use Rattle.text.specs.Names.{named, behind_names}
use Rattle.saved.specs.declared.Row.{Row}
use Rattle.saved.specs.Row.{column_names, row_of, name_in, is_last_row, is_ticket_row, is_entry_row, of_program, line_ok, key}
use Rattle.saved.specs.Save.{programs}

-- ---- which lines may follow which; `before` has the lines so far, the latest first
-- "strictly rising"
unfoldable pub above : List Row → Row → Bool
above [] r = true
above (last ∷ earlier) r = ltb (key last) (key r)

unfoldable pub last_of_program : ℕ → ℕ → Row → Bool
last_of_program pad program r = is_last_row r && of_program pad program r

unfoldable pub ticket_of_program : ℕ → ℕ → Row → Bool
ticket_of_program pad program r = is_ticket_row r && of_program pad program r

-- no second "kind 0 line", no "ninth ticket for a program", no "257th entry"
unfoldable pub has_room : List Row → Row → Bool
has_room before r =
    cond (is_last_row r) (not (some (last_of_program r.pad r.program) before))
    (cond (is_entry_row r) (ltb (count_of is_entry_row before) 256) (ltb (count_of (ticket_of_program r.pad r.program) before) 8))

unfoldable pub may_follow : List Row → Row → Bool
may_follow before r = above before r && has_room before r

unfoldable pub all_follow : List Row → List Row → Bool
all_follow before [] = true
all_follow before (r ∷ rs) = let rest = all_follow (r ∷ before) rs in may_follow before r && rest

-- ---- the form of the whole text
-- a "last byte 10"
unfoldable pub is_ended : List ℕ → Bool
is_ended [] = false
is_ended (x ∷ []) = eqb x line_end
is_ended (x ∷ y ∷ rest) = is_ended (y ∷ rest)

abbrev pub lines_in : List ℕ → List (List ℕ)
lines_in text = behind_names (lines text)

abbrev pub rows_in : List ℕ → List Row
rows_in text = map (λ line. row_of (values_of line)) (lines_in text)

-- "all 32 programs are present"
unfoldable pub all_programs : List Row → Bool
all_programs rows = all (λ i. some (last_of_program (i / 8) (i % 8)) rows) programs

unfoldable pub form_ok : List ℕ → Bool
form_ok text =
    named column_names (lines text) && is_ended text && all line_ok (lines_in text) && all_follow [] (rows_in text) && all_programs (rows_in text)

-- ---- the tables of lines: tickets and entries fill their places from the first on, in the order of the lines
abbrev pub no_row : Row
no_row = record { kind = 0; pad = 0; program = 0; number = 0; own = 0; other = no_name; first = 0; count = 0; rights = 0 }

unfoldable pub ticket_from : (Name → Name) → Row → Ticket
ticket_from docks r = record {
  kind = kind_of r.kind;
  number = r.number;
  own = r.own;
  other = r.other;
  first = r.first;
  count = r.count;
  rights = rights_of r.rights;
  dock = cond (eqb r.kind 4) no_name (docks (name_in r));
}

unfoldable pub entry_from : Row → Entry
entry_from r = entry_for (name_in r) r.other r.first r.count (rights_of r.rights)

unfoldable pub program_from : (Name → Name) → (ℕ → ℕ → ℕ) → List Row → ℕ → ℕ → Program
program_from docks lasts rows pad program = record {
  tickets = filled 8 free (map (ticket_from docks) (keep (ticket_of_program pad program) rows));
  last = lasts pad program;
}

unfoldable pub tables_with : (Name → Name) → (ℕ → ℕ → ℕ) → List Row → Tables
tables_with docks lasts rows = record {
  pads = tabulate 4 (λ pad. record { programs = tabulate 8 (program_from docks lasts rows pad) });
  entries = filled 256 no_entry (map entry_from (keep is_entry_row rows));
}

-- a grant's dock name has no column: it is the name of the grant that heads its chain, its own where it has no parent
unfoldable pub tables_from : (ℕ → ℕ → ℕ) → List Row → Tables
tables_from lasts rows = let bare = tables_with (λ n. n) lasts rows in tables_with (chain_head bare) lasts rows

-- the last number that a program's kind 0 line gives; 0 without one
unfoldable pub last_in : List Row → ℕ → ℕ → ℕ
last_in rows pad program = (get_or rows (first_index (last_of_program pad program) rows) no_row).number

-- ---- the whole
pub record Loaded : Type 0 where
  pub result : ℕ
  pub tables : Tables

unfoldable pub tables_in : List ℕ → Tables
tables_in text = tables_from (last_in (rows_in text)) (rows_in text)

-- "Turned away: 18 .. before 14"
unfoldable pub load_refusal : List ℕ → ℕ
load_refusal text = 18 when not (form_ok text) else 14 when not (in_order (tables_in text)) else 0

-- "A refused load gives empty tables."
unfoldable pub load : List ℕ → Loaded
load text = record { result = load_refusal text; tables = cond (eqb (load_refusal text) 0) (tables_in text) empty_tables }
