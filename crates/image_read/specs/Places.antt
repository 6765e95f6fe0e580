-- What an image says, by place: its tickets, the programs' last numbers and its entries, each read where it stands.
use Rattle.std.specs.Prelude.{ℕ, ◌+◌, ◌*◌, List, drop}
use Rattle.lists.specs.Parts.{tabulate}
use Rattle.tables.specs.declared.{Ticket.Ticket, Entry.Entry}
use Rattle.image.specs.Layout.{program_last_at, program_size}
use Rattle.image.specs.Numbers.{number_at}
use Rattle.image.specs.Image.{read_ticket, read_entry, ticket_start, entry_start}

-- where the last number of a program stands, programs counted over all pads
abbrev pub last_start : ℕ → ℕ
last_start program = program_size * program + program_last_at

unfoldable pub tickets_in : List ℕ → List Ticket
tickets_in bytes = tabulate 256 (λ place. read_ticket (drop (ticket_start place) bytes))

unfoldable pub lasts_in : List ℕ → List ℕ
lasts_in bytes = tabulate 32 (λ program. number_at (last_start program) bytes)

unfoldable pub entries_in : List ℕ → List Entry
entries_in bytes = tabulate 256 (λ place. read_entry (drop (entry_start place) bytes))
