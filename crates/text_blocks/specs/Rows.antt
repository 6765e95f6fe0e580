-- Lines that the code makes: with only a number, and of a grant with its parent; and those of what stands at a place.
use Rattle.std.specs.Prelude.{ℕ, ◌/◌, ◌%◌, List}
use Rattle.tables.specs.declared.{Name.Name, Ticket.Ticket}
use Rattle.tables.specs.Names.{no_name}
use Rattle.tables.specs.Lookup.{entry_of}
use Rattle.image.specs.Image.{decode}
use Rattle.saved.specs.declared.Row.{Row}
use Rattle.saved.specs.Save.{ticket_row, entry_row}
use Rattle.text_loans.specs.Walk.{ticket_in}

abbrev pub number_row : ℕ → ℕ → ℕ → Row
number_row pad program number =
    record { kind = 0; pad = pad; program = program; number = number; own = 0; other = no_name; first = 0; count = 0; rights = 0 }

abbrev pub grant_row : ℕ → ℕ → ℕ → Name → Ticket → Row
grant_row kind pad program parent k = record {
  kind = kind;
  pad = pad;
  program = program;
  number = k.number;
  own = 0;
  other = parent;
  first = k.first;
  count = k.count;
  rights = k.rights.bits;
}

-- ---- by place
abbrev pub ticket_row_at : List ℕ → ℕ → Row
ticket_row_at image place = ticket_row (place / 64) (place / 8 % 8) (ticket_in image place)

abbrev pub entry_row_at : List ℕ → ℕ → Row
entry_row_at image place = entry_row (entry_of (decode image) (ticket_in image place).dock)
