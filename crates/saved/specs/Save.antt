-- Saving: the text of the tables. The order of the lines is the paper's, whatever places tickets and entries are kept in.
use Rattle.std.specs.Prelude.{ℕ, ◌+◌, ◌*◌, ◌/◌, ◌%◌}
use mathlib.Core.List.{List, ◌∷◌, ◌++◌, map, flat_map}
use Rattle.lists.specs.Parts.{tabulate}
use Rattle.lists.specs.Lists.{keep, sorted_by}
use Rattle.tables.specs.declared.{Ticket.Ticket, Entry.Entry, Tables.Tables}
use Rattle.tables.specs.Kinds.{is_live}
use Rattle.tables.specs.Names.{no_name}
use Rattle.tables.specs.Lookup.{tickets_of, last_of}
use Rattle.tables.specs.Same.{said, said_entry}
use Rattle.image.specs.Image.{kind_number}
use Rattle.text.specs.Bytes.{line_end}
use Rattle.text.specs.Writing.{values_line}
use Rattle.saved.specs.declared.Row.{Row}
use Rattle.saved.specs.Row.{column_names, columns_of, key}

-- the 32 programs, counted over the pads: program i is program i % 8 of pad i / 8
unfoldable pub programs : List ℕ
programs = tabulate 32 (λ i. i)

-- "Kind 0 gives a program's last number, and all 32 programs are present once."
unfoldable pub last_row : Tables → ℕ → Row
last_row t i =
    record { kind = 0; pad = i / 8; program = i % 8; number = last_of t (i / 8) (i % 8); own = 0; other = no_name; first = 0; count = 0; rights = 0 }

-- a ticket's line; of what its kind does not use, `said` leaves zeros
unfoldable pub ticket_row : ℕ → ℕ → Ticket → Row
ticket_row pad program k =
    let s = said k in
    record {
      kind = kind_number s.kind;
      pad = pad;
      program = program;
      number = s.number;
      own = s.own;
      other = s.other;
      first = s.first;
      count = s.count;
      rights = s.rights.bits;
    }

unfoldable pub ticket_rows : Tables → ℕ → List Row
ticket_rows t i = map (ticket_row (i / 8) (i % 8)) (keep (λ k. is_live k.kind) (tickets_of t (i / 8) (i % 8)))

-- an entry's line; "zeros meaning the store"
unfoldable pub entry_row : Entry → Row
entry_row e =
    let s = said_entry e in
    record {
      kind = 5;
      pad = s.name.pad;
      program = s.name.program;
      number = s.name.number;
      own = 0;
      other = s.parent;
      first = s.first;
      count = s.count;
      rights = s.rights.bits;
    }

-- every line, as it is found
unfoldable pub rows_found : Tables → List Row
rows_found t = map (last_row t) programs ++ flat_map (ticket_rows t) programs ++ map entry_row (keep (λ e. e.live) t.entries)

-- ---- "Lines stand by kind, pad, program, number"
unfoldable pub rows_of : Tables → List Row
rows_of t = sorted_by key (rows_found t)

-- ---- the text
unfoldable pub text_of : List Row → List ℕ
text_of rows = column_names ++ line_end ∷ flat_map (λ r. values_line (columns_of r)) rows

unfoldable pub saved : Tables → List ℕ
saved t = text_of (rows_of t)

-- bytes that every text of tables in order fits into: the names, 26 for each of 32 programs, 34 for each of 256 tickets and 256 entries
abbrev pub saved_room : ℕ
saved_room = 69 + 26 * 32 + 34 * (256 + 256)
