-- Tickets and entries found by name. "Finding a ticket by number without asking whose it is" is a trap of this trade: `lookup`
-- goes to the named program of the named pad and asks there. A name that has no live ticket, impossible ones included, finds
-- the free record: outside its bounds a list answers with an empty pad or program.
use Rattle.std.specs.Prelude.{ℕ, suc, ◌+◌, ◌*◌, ◌<◌, ◌≡◌, Bool, ◌&&◌, cond, List, eqb, length, get_or}
use Rattle.lists.specs.Lists.{first_index, keep}
use Rattle.lists.specs.Parts.{tabulate}
use Rattle.tables.specs.declared.{Name.Name, Ticket.Ticket, Program.Program, Pad.Pad, Entry.Entry, Tables.Tables}
use Rattle.tables.specs.Kinds.{is_live}
use Rattle.tables.specs.Names.{name_of, eq_name, free, no_entry, no_program, no_pad}

abbrev pub pad_at : Tables → ℕ → Pad
pad_at t pad = get_or t.pads pad no_pad

abbrev pub program_at : Tables → ℕ → ℕ → Program
program_at t pad program = get_or (pad_at t pad).programs program no_program

abbrev pub tickets_of : Tables → ℕ → ℕ → List Ticket
tickets_of t pad program = (program_at t pad program).tickets

-- the last number that the program was given
abbrev pub last_of : Tables → ℕ → ℕ → ℕ
last_of t pad program = (program_at t pad program).last

unfoldable pub has_number : ℕ → Ticket → Bool
has_number number k = is_live k.kind && eqb k.number number

-- the live ticket of that number among a program's tickets, or the free record
unfoldable pub ticket_in : List Ticket → ℕ → Ticket
ticket_in tickets number = get_or tickets (first_index (has_number number) tickets) free

-- the live ticket of that name, or the free record
unfoldable pub lookup : Tables → Name → Ticket
lookup t n = ticket_in (tickets_of t n.pad n.program) n.number

unfoldable pub is_named : Name → Entry → Bool
is_named n e = e.live && eq_name e.name n

unfoldable pub entry_in : List Entry → Name → Entry
entry_in entries n = get_or entries (first_index (is_named n) entries) no_entry

-- the live entry of that name, or the free record
abbrev pub entry_of : Tables → Name → Entry
entry_of t n = entry_in t.entries n

-- where the live ticket of that name is kept, counted over all 256 places: 64 of each pad, 8 of each program; 256 where there is none
unfoldable pub place_of : Tables → Name → ℕ
place_of t n =
    let place = first_index (has_number n.number) (tickets_of t n.pad n.program) in
    cond (is_live (lookup t n).kind) (64 * n.pad + 8 * n.program + place) 256

-- "by number": the names of a program's tickets that pass, their numbers rising from 1 to its last
unfoldable pub names_of : (Ticket → Bool) → Tables → ℕ → ℕ → List Name
names_of test t pad program =
    keep (λ n. test (lookup t n)) (tabulate (last_of t pad program) (λ i. name_of pad program (suc i)))

-- the lengths that the arrays have: 4 pads, 8 programs, 8 places; 256 places for entries
pub record Sized (t : Tables) : Type 0 where
  pub pads : length t.pads ≡ 4
  pub programs : (pad : ℕ) → pad < 4 → length (pad_at t pad).programs ≡ 8
  pub tickets : (pad program : ℕ) → pad < 4 → program < 8 → length (tickets_of t pad program) ≡ 8
  pub entries : length t.entries ≡ 256
