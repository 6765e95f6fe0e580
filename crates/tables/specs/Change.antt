-- What the operations do to tables: a ticket or an entry put in the lowest free place, and removal by name. "Freed places are used
-- again." The place is our choice and never counts (Same.antt); a place that becomes free holds the free record. Removal is by
-- name and never by place: "Naming an entry by its table place" is a trap of this trade.
use Rattle.std.specs.Prelude.{ℕ, suc, Bool, not, ◌&&◌, cond, map, set}
use Rattle.lists.specs.Lists.{first_index, some, map_at}
use Rattle.tables.specs.declared.{Name.Name, Ticket.Ticket, Program.Program, Pad.Pad, Entry.Entry, Tables.Tables}
use Rattle.tables.specs.Kinds.{is_live}
use Rattle.tables.specs.Names.{name_of, free, no_entry}
use Rattle.tables.specs.Lookup.{pad_at, program_at, tickets_of, last_of}

-- ---- a ticket given
unfoldable pub is_free : Ticket → Bool
is_free k = not (is_live k.kind)

unfoldable pub has_place : Tables → ℕ → ℕ → Bool
has_place t pad program = some is_free (tickets_of t pad program)

-- the name of the program's next ticket: "Ticket numbers count from 1 for each program by itself, never used twice"
abbrev pub new_name : Tables → ℕ → ℕ → Name
new_name t pad program = name_of pad program (suc (last_of t pad program))

-- the program with the ticket in its lowest free place; the ticket's number is the last given
unfoldable pub with_ticket : Program → Ticket → Program
with_ticket p k = record { tickets = set p.tickets (first_index is_free p.tickets) k; last = k.number }

unfoldable pub with_program : Tables → ℕ → ℕ → Program → Tables
with_program t pad program p = record {
  pads = set t.pads pad (record { programs = set (pad_at t pad).programs program p });
  entries = t.entries;
}

unfoldable pub give : Tables → ℕ → ℕ → Ticket → Tables
give t pad program k = with_program t pad program (with_ticket (program_at t pad program) k)

-- ---- an entry made
unfoldable pub is_spare : Entry → Bool
is_spare e = not e.live

unfoldable pub put_entry : Tables → Entry → Tables
put_entry t e = record { pads = t.pads; entries = set t.entries (first_index is_spare t.entries) e }

-- ---- tickets removed: those whose names the test picks
unfoldable pub drop_ticket : (Name → Bool) → ℕ → ℕ → Ticket → Ticket
drop_ticket gone pad program k = cond (is_live k.kind && gone (name_of pad program k.number)) free k

unfoldable pub drop_in_program : (Name → Bool) → ℕ → ℕ → Program → Program
drop_in_program gone pad program p = record { tickets = map (drop_ticket gone pad program) p.tickets; last = p.last }

unfoldable pub drop_in_pad : (Name → Bool) → ℕ → Pad → Pad
drop_in_pad gone pad p = record { programs = map_at (drop_in_program gone pad) 0 p.programs }

unfoldable pub drop_tickets : (Name → Bool) → Tables → Tables
drop_tickets gone t = record { pads = map_at (drop_in_pad gone) 0 t.pads; entries = t.entries }

-- ---- entries removed: those whose names the test picks
unfoldable pub drop_entry : (Name → Bool) → Entry → Entry
drop_entry gone e = cond (e.live && gone e.name) no_entry e

unfoldable pub drop_entries : (Name → Bool) → Tables → Tables
drop_entries gone t = record { pads = t.pads; entries = map (drop_entry gone) t.entries }
