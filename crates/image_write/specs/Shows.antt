-- What an image shows, by place, and the tables that it holds.
use Rattle.std.specs.Prelude.{ℕ, ◌≡◌, true, List}
use Rattle.tables.specs.declared.{Ticket.Ticket, Entry.Entry, Tables.Tables}
use Rattle.image.specs.Image.{decode, is_image}
use Rattle.image_read.specs.Places.{tickets_in, lasts_in, entries_in}

-- an image with these tickets, last numbers and entries
pub record Shows (image : List ℕ) (ts : List Ticket) (ls : List ℕ) (es : List Entry) : Type 0 where
  pub is : is_image image ≡ true
  pub tickets : tickets_in image ≡ ts
  pub lasts : lasts_in image ≡ ls
  pub entries : entries_in image ≡ es

-- an image of these tables
pub record Holds (image : List ℕ) (t : Tables) : Type 0 where
  pub is : is_image image ≡ true
  pub tables : decode image ≡ t
