-- The image of the tables: every field a number of 16 bits at a fixed place, low byte first, nothing between them. Each
-- record is defined both ways, as its bytes and as what it is read from: the bytes that begin with it.
use Rattle.std.specs.Prelude.{ℕ, ◌+◌, ◌*◌, ◌/◌, ◌%◌, Bool, ◌&&◌, cond, List, [], ◌∷◌, ◌++◌, leb, eqb, length, get_or, drop}
use Rattle.lists.specs.Lists.{all}
use Rattle.lists.specs.Parts.{tabulate, joined}
use Rattle.rights.specs.Rules.{rights_of}
use Rattle.tables.specs.declared.{Name.Name, Kind.Kind, Ticket.Ticket, Program.Program, Pad.Pad, Entry.Entry, Tables.Tables}
use Rattle.tables.specs.declared.Kind.TheVariants.{Free, Taken, Received, Child, Recall}
use Rattle.tables.specs.Names.{name_of, free, no_entry, no_program, no_pad}
use Rattle.image.specs.Layout.{ticket_kind_at, ticket_number_at, ticket_own_at, ticket_other_at, ticket_first_at, ticket_count_at, ticket_rights_at, ticket_dock_at, ticket_size}
use Rattle.image.specs.Layout.{program_last_at, program_size, pad_size}
use Rattle.image.specs.Layout.{entry_live_at, entry_name_at, entry_parent_at, entry_first_at, entry_count_at, entry_rights_at, entry_size, entries_at, image_size}
use Rattle.image.specs.Numbers.{bytes_of, number_at}

-- ---- a ticket: kind, number, own, other (pad, program, number), first, count, rights, dock (pad, program, number)
abbrev pub kind_number : Kind → ℕ
kind_number Free = 0
kind_number Taken = 1
kind_number Received = 2
kind_number Child = 3
kind_number Recall = 4

unfoldable pub kind_of : ℕ → Kind
kind_of n = cond (eqb n 1) Taken (cond (eqb n 2) Received (cond (eqb n 3) Child (cond (eqb n 4) Recall Free)))

abbrev pub read_name : ℕ → List ℕ → Name
read_name at bytes = name_of (number_at at bytes) (number_at (at + 2) bytes) (number_at (at + 4) bytes)

unfoldable pub ticket_numbers : Ticket → List ℕ
ticket_numbers k =
    kind_number k.kind ∷ k.number ∷ k.own ∷ k.other.pad ∷ k.other.program ∷ k.other.number ∷ k.first ∷ k.count
    ∷ k.rights.bits ∷ k.dock.pad ∷ k.dock.program ∷ k.dock.number ∷ []

unfoldable pub ticket_bytes : Ticket → List ℕ
ticket_bytes k = bytes_of (ticket_numbers k)

unfoldable pub read_ticket : List ℕ → Ticket
read_ticket bytes = record {
  kind = kind_of (number_at ticket_kind_at bytes);
  number = number_at ticket_number_at bytes;
  own = number_at ticket_own_at bytes;
  other = read_name ticket_other_at bytes;
  first = number_at ticket_first_at bytes;
  count = number_at ticket_count_at bytes;
  rights = rights_of (number_at ticket_rights_at bytes);
  dock = read_name ticket_dock_at bytes;
}

-- ---- a program: its eight tickets, then its last number
unfoldable pub program_bytes : Program → List ℕ
program_bytes p = joined 8 (λ i. ticket_bytes (get_or p.tickets i free)) ++ bytes_of (p.last ∷ [])

unfoldable pub read_program : List ℕ → Program
read_program bytes = record { tickets = tabulate 8 (λ i. read_ticket (drop (ticket_size * i) bytes)); last = number_at program_last_at bytes }

-- ---- a pad: its eight programs
unfoldable pub pad_bytes : Pad → List ℕ
pad_bytes p = joined 8 (λ i. program_bytes (get_or p.programs i no_program))

unfoldable pub read_pad : List ℕ → Pad
read_pad bytes = record { programs = tabulate 8 (λ i. read_program (drop (program_size * i) bytes)) }

-- ---- an entry: 1 where it is live, else 0; name and parent (pad, program, number), first, count, rights
unfoldable pub entry_numbers : Entry → List ℕ
entry_numbers e =
    cond e.live 1 0 ∷ e.name.pad ∷ e.name.program ∷ e.name.number ∷ e.parent.pad ∷ e.parent.program ∷ e.parent.number
    ∷ e.first ∷ e.count ∷ e.rights.bits ∷ []

unfoldable pub entry_bytes : Entry → List ℕ
entry_bytes e = bytes_of (entry_numbers e)

unfoldable pub read_entry : List ℕ → Entry
read_entry bytes = record {
  live = eqb (number_at entry_live_at bytes) 1;
  name = read_name entry_name_at bytes;
  parent = read_name entry_parent_at bytes;
  first = number_at entry_first_at bytes;
  count = number_at entry_count_at bytes;
  rights = rights_of (number_at entry_rights_at bytes);
}

-- ---- the whole: the four pads, then the 256 places for entries
unfoldable pub encode : Tables → List ℕ
encode t = joined 4 (λ i. pad_bytes (get_or t.pads i no_pad)) ++ joined 256 (λ i. entry_bytes (get_or t.entries i no_entry))

unfoldable pub decode : List ℕ → Tables
decode bytes = record {
  pads = tabulate 4 (λ i. read_pad (drop (pad_size * i) bytes));
  entries = tabulate 256 (λ i. read_entry (drop (entries_at + entry_size * i) bytes));
}

-- ---- which bytes are an image: those of its length in which every kind is one of the five and every entry is live or not
-- where the ticket in place q of program p stands, programs counted over all pads: place 8 * p + q
abbrev pub ticket_start : ℕ → ℕ
ticket_start place = program_size * (place / 8) + ticket_size * (place % 8)

abbrev pub entry_start : ℕ → ℕ
entry_start place = entries_at + entry_size * place

unfoldable pub kinds_ok : List ℕ → Bool
kinds_ok bytes = all (λ place. leb (number_at (ticket_start place) bytes) 4) (tabulate 256 (λ i. i))

unfoldable pub lives_ok : List ℕ → Bool
lives_ok bytes = all (λ place. leb (number_at (entry_start place) bytes) 1) (tabulate 256 (λ i. i))

unfoldable pub is_image : List ℕ → Bool
is_image bytes = eqb (length bytes) image_size && kinds_ok bytes && lives_ok bytes
