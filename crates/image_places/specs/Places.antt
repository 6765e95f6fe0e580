-- Places of tickets: place 64 * pad + 8 * program + i is place i of that program. A list of 256 tickets in that order is the tables'
-- tickets; a list of 256 numbers, 0 at free places, is an index of their names.
use Rattle.std.specs.Prelude.{ℕ, ◌+◌, ◌*◌, ◌/◌, ◌%◌, ◌≤◌, ◌<◌, ◌≡◌, true, not, ◌&&◌, cond, List, ltb, eqb, length, get_or, take, drop}
use Rattle.lists.specs.Lists.{first_index}
use Rattle.lists.proofs.Keyed.{Distinct}
use Rattle.tables.specs.declared.{Name.Name, Ticket.Ticket, Tables.Tables}
use Rattle.tables.specs.Kinds.{is_live}
use Rattle.tables.specs.Names.{name_of, free, no_entry, is_none, is_program}
use Rattle.tables.specs.Lookup.{Sized, tickets_of, last_of, entry_of}
use Rattle.tables.proofs.Keys.{ticket_keys}

-- what stands at the place p
abbrev pub placed : Tables → ℕ → Ticket
placed t p = get_or (tickets_of t (p / 64) (p / 8 % 8)) (p % 8) free

-- the name of the ticket k at the place p
abbrev pub name_at : ℕ → Ticket → Name
name_at p k = name_of (p / 64) (p / 8 % 8) k.number

pub record Flattened (t : Tables) (tickets : List Ticket) (lasts : List ℕ) : Type 0 where
  pub long : length tickets ≡ 256
  pub same : (p : ℕ) → p < 256 → get_or tickets p free ≡ placed t p
  pub lasts_long : length lasts ≡ 32
  pub last : (pad program : ℕ) → pad < 4 → program < 8 → get_or lasts (8 * pad + program) 0 ≡ last_of t pad program

-- a ticket's number, 0 in a free place
unfoldable pub number_of : Ticket → ℕ
number_of k = cond (is_live k.kind) k.number 0

-- where the named program's eight places begin
abbrev pub start_of : Name → ℕ
start_of n = 64 * n.pad + 8 * n.program

-- the place of the live ticket of a name among the numbers of all places; 256 where there is none
unfoldable pub place_in : List ℕ → Name → ℕ
place_in numbers n =
    let i = first_index (λ x. eqb x n.number) (take 8 (drop (start_of n) numbers)) in
    cond (is_program n.pad n.program && not (is_none n) && ltb i 8) (start_of n + i) 256

-- the numbers of all places, in tables with T1: live numbers are not 0, and distinct in each program
pub record Numbered (t : Tables) (numbers : List ℕ) : Type 0 where
  pub sized : Sized t
  pub low : (p : ℕ) → p < 256 → is_live (placed t p).kind ≡ true → 1 ≤ (placed t p).number
  pub distinct : (pad program : ℕ) → pad < 4 → program < 8 → Distinct ticket_keys (tickets_of t pad program)
  pub long : length numbers ≡ 256
  pub same : (p : ℕ) → p < 256 → get_or numbers p 0 ≡ number_of (placed t p)

-- the entry of each live ticket's name, noted at the ticket's place: its place among the entries, 256 where there is none; a name without
-- a live ticket has no entry
pub record Noted (t : Tables) (numbers notes : List ℕ) : Type 0 where
  pub long : length notes ≡ 256
  pub most : (p : ℕ) → p < 256 → get_or notes p 0 ≤ 256
  pub here : (n : Name) → place_in numbers n < 256 → entry_of t n ≡ get_or t.entries (get_or notes (place_in numbers n) 0) no_entry
  pub nowhere : (n : Name) → place_in numbers n ≡ 256 → entry_of t n ≡ no_entry
