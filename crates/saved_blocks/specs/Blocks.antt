-- Lines stand by kind, pad, program, number: so block after block, each with the lines of one kind of one program, by number. Block m has
-- those of the kind m / 32 of the program m % 32, programs counted over the pads: program i is program i % 8 of pad i / 8.
use Rattle.std.specs.Prelude.{ℕ, ◌/◌, ◌%◌, Bool, ◌&&◌, cond, ltb, eqb}
use mathlib.Core.List.{List, [], ◌∷◌, map, flat_map}
use Rattle.tables.specs.declared.{Name.Name, Ticket.Ticket, Tables.Tables}
use Rattle.tables.specs.Kinds.{is_head}
use Rattle.tables.specs.Lookup.{lookup, entry_of, names_of}
use Rattle.image.specs.Image.{kind_number}
use Rattle.text.specs.Writing.{values_line}
use Rattle.saved.specs.declared.Row.{Row}
use Rattle.saved.specs.Row.{columns_of}
use Rattle.saved.specs.Save.{last_row, ticket_row, entry_row}

-- a ticket of the kind with that number
abbrev pub of_kind : ℕ → Ticket → Bool
of_kind kind k = eqb (kind_number k.kind) kind

-- a taken or received grant that has its entry
unfoldable pub has_entry : Tables → Ticket → Bool
has_entry t k = is_head k.kind && (entry_of t k.dock).live

-- ---- the line of a ticket, and of a grant's entry, by name
abbrev pub ticket_line : Tables → Name → Row
ticket_line t n = ticket_row n.pad n.program (lookup t n)

abbrev pub entry_line : Tables → Name → Row
entry_line t n = entry_row (entry_of t n)

-- ---- the lines of a program
unfoldable pub ticket_lines : Tables → ℕ → ℕ → List Row
ticket_lines t kind i = map (ticket_line t) (names_of (of_kind kind) t (i / 8) (i % 8))

-- an entry has the name of its grant
unfoldable pub entry_lines : Tables → ℕ → List Row
entry_lines t i = map (entry_line t) (names_of (has_entry t) t (i / 8) (i % 8))

-- ---- the blocks
abbrev pub blocks : ℕ
blocks = 192

unfoldable pub block : Tables → ℕ → List Row
block t m = cond (ltb m 32) (last_row t m ∷ []) (cond (ltb m 160) (ticket_lines t (m / 32) (m % 32)) (entry_lines t (m % 32)))

-- ---- as bytes
abbrev pub line_of : Row → List ℕ
line_of r = values_line (columns_of r)

abbrev pub lines_of : List Row → List ℕ
lines_of rows = flat_map line_of rows
