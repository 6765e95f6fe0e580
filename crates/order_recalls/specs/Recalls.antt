-- Tables laid out by place, and what T6 asks of one recall.
use Rattle.std.specs.Prelude.{ℕ, ◌≡◌, Bool, ◌&&◌, List}
use Rattle.tables.specs.declared.{Name.Name, Ticket.Ticket, Tables.Tables}
use Rattle.tables.specs.Lookup.{lookup}
use Rattle.tables.specs.Chains.{own_name}
use Rattle.tables.specs.Order.{recall_parent_ok, target_ok}
use Rattle.image_places.specs.Places.{Flattened, Numbered, Noted}
use Rattle.image_read.specs.Places.{tickets_in, lasts_in, entries_in}

-- the image says the tables t by place, and numbers and notes are an index of them
pub record LaidOut (t : Tables) (image numbers notes : List ℕ) : Type 0 where
  pub flat : Flattened t (tickets_in image) (lasts_in image)
  pub entries : entries_in image ≡ t.entries
  pub numbered : Numbered t numbers
  pub noted : Noted t numbers notes

-- what T6 asks of one recall by itself
unfoldable pub recall_holds : Tables → Name → Ticket → Bool
recall_holds t n k = recall_parent_ok (lookup t (own_name n k)) && target_ok t n k
