-- What the code knows between two lines of a saved text: how many lines of each sort have come, and the tickets, last numbers and entries
-- that they make, by place. `before` has the lines so far, the latest first, as in saved/specs/Load.
use Rattle.std.specs.Prelude.{ℕ, ◌+◌, ◌*◌, ◌<◌, ◌≡◌, true, cond, List, [], ◌∷◌, eqb, length, get_or, set, replicate}
use Rattle.lists.specs.Lists.{count_of}
use Rattle.tables.specs.declared.{Ticket.Ticket, Entry.Entry, Tables.Tables}
use Rattle.tables.specs.Names.{free, no_entry}
use Rattle.saved.specs.declared.Row.{Row}
use Rattle.saved.specs.Row.{is_last_row, is_ticket_row, is_entry_row, row_ok, key}
use Rattle.saved.specs.Load.{may_follow, ticket_from, entry_from, tables_with, last_in}
use Rattle.image_write.specs.Shows.{Shows}

-- ---- sorts of lines: each program's kind 0 lines, each program's tickets, the entries
abbrev pub sorts : ℕ
sorts = 32 + 32 + 1

-- the line's program, counted over the pads
abbrev pub program_of : Row → ℕ
program_of r = 8 * r.pad + r.program

unfoldable pub sort_of : Row → ℕ
sort_of r = cond (is_last_row r) (program_of r) (cond (is_entry_row r) 64 (32 + program_of r))

-- how many lines of its sort there may be
unfoldable pub most_of : Row → ℕ
most_of r = cond (is_last_row r) 1 (cond (is_entry_row r) 256 8)

-- how many there were
unfoldable pub count_before : List Row → ℕ → ℕ
count_before before sort = count_of (λ r. eqb (sort_of r) sort) before

-- the lowest key that may follow
unfoldable pub next_key : List Row → ℕ
next_key [] = 0
next_key (last ∷ earlier) = key last + 1

-- ---- what the lines make, by place: tickets and entries fill their places from the first on. A grant has its own name as dock name for now
unfoldable pub tickets_by : List Row → List Ticket
tickets_by [] = replicate 256 free
tickets_by (r ∷ before) =
    let place = 8 * program_of r + count_before before (sort_of r) in
    cond (is_ticket_row r) (set (tickets_by before) place (ticket_from (λ n. n) r)) (tickets_by before)

unfoldable pub lasts_by : List Row → List ℕ
lasts_by [] = replicate 32 0
lasts_by (r ∷ before) = cond (is_last_row r) (set (lasts_by before) (program_of r) r.number) (lasts_by before)

unfoldable pub entries_by : List Row → List Entry
entries_by [] = replicate 256 no_entry
entries_by (r ∷ before) = cond (is_entry_row r) (set (entries_by before) (count_before before 64) (entry_from r)) (entries_by before)

-- the tables of all lines, so far
abbrev pub bare_tables : List Row → Tables
bare_tables rows = tables_with (λ n. n) (last_in rows) rows

-- ---- lines in form, each of which may follow those before it
pub data Followed : List Row → Type 0 where
  none : Followed []
  more : {r : Row} {before : List Row} → row_ok r ≡ true → may_follow before r ≡ true → Followed before → Followed (r ∷ before)

-- the counts of the lines so far
pub record Tallied (before : List Row) (tally : List ℕ) : Type 0 where
  pub long : length tally ≡ sorts
  pub counts : (sort : ℕ) → sort < sorts → get_or tally sort 0 ≡ count_before before sort

-- the image is filled by the lines so far
abbrev pub Filled : List Row → List ℕ → Type 0
Filled before image = Shows image (tickets_by before) (lasts_by before) (entries_by before)
