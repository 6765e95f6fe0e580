-- Names, the records of tickets and entries, and empty tables. The free records are the zero records of their types, so that they
-- are also what a list answers outside its bounds.
use Rattle.std.specs.Prelude.{ℕ, Bool, true, false, ◌&&◌, [], eqb, leb, replicate}
use Rattle.rights.specs.declared.Rights.{Rights}
use Rattle.rights.specs.Rules.{rights_of}
use Rattle.tables.specs.declared.{Name.Name, Kind.Kind, Ticket.Ticket, Program.Program, Pad.Pad, Entry.Entry, Tables.Tables}
use Rattle.tables.specs.declared.Kind.TheVariants.{Free, Recall}

abbrev pub name_of : ℕ → ℕ → ℕ → Name
name_of pad program number = record { pad = pad; program = program; number = number }

unfoldable pub eq_name : Name → Name → Bool
eq_name a b = eqb a.pad b.pad && eqb a.program b.program && eqb a.number b.number

-- No ticket has the number 0: as a parent it says that there is none. An entry's parent is then the store itself.
abbrev pub no_name : Name
no_name = name_of 0 0 0

abbrev pub is_none : Name → Bool
is_none n = eqb n.number 0

-- "pads 0 to 3, each with programs 0 to 7"
unfoldable pub is_program : ℕ → ℕ → Bool
is_program pad program = leb pad 3 && leb program 7

-- the same program of the same pad
unfoldable pub same_program : ℕ → ℕ → ℕ → ℕ → Bool
same_program pad program pad' program' = eqb pad pad' && eqb program program'

-- ---- the records of tickets and entries; what a kind does not use is 0
abbrev pub free : Ticket
free = record { kind = Free; number = 0; own = 0; other = no_name; first = 0; count = 0; rights = rights_of 0; dock = no_name }

abbrev pub grant_ticket : Kind → ℕ → Name → ℕ → ℕ → Rights → Name → Ticket
grant_ticket kind number parent first count rights dock =
    record { kind = kind; number = number; own = 0; other = parent; first = first; count = count; rights = rights; dock = dock }

-- a taken or received grant has no parent on its pad, and its dock name is its own
abbrev pub head_ticket : Kind → Name → ℕ → ℕ → Rights → Ticket
head_ticket kind n first count rights = grant_ticket kind n.number no_name first count rights n

abbrev pub recall_ticket : ℕ → ℕ → Name → Ticket
recall_ticket number own target =
    record { kind = Recall; number = number; own = own; other = target; first = 0; count = 0; rights = rights_of 0; dock = no_name }

abbrev pub no_entry : Entry
no_entry = record { live = false; name = no_name; parent = no_name; first = 0; count = 0; rights = rights_of 0 }

abbrev pub entry_for : Name → Name → ℕ → ℕ → Rights → Entry
entry_for n parent first count rights =
    record { live = true; name = n; parent = parent; first = first; count = count; rights = rights }

-- ---- "tables without tickets or entries, last numbers 0"
abbrev pub no_program : Program
no_program = record { tickets = []; last = 0 }

abbrev pub no_pad : Pad
no_pad = record { programs = [] }

unfoldable pub empty_tables : Tables
empty_tables = record {
  pads = replicate 4 (record { programs = replicate 8 (record { tickets = replicate 8 free; last = 0 }) });
  entries = replicate 256 no_entry;
}
