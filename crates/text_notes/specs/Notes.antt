-- Entries noted at the places of their grants: so they come by the names of their grants, and nothing is sorted.
use Rattle.std.specs.Prelude.{ℕ, ◌<◌, ◌≡◌, true, List, ltb, length, get_or}
use Rattle.tables.specs.Names.{no_entry}
use Rattle.tables.specs.Lookup.{entry_of}
use Rattle.image.specs.Image.{decode}
use Rattle.image_read.specs.Places.{entries_in}
use Rattle.saved_blocks.specs.Blocks.{has_entry}
use Rattle.text_loans.specs.Walk.{ticket_in}

-- at each place the place of the entry of the grant there; 256 or more where it has none
pub record Noted (image notes : List ℕ) : Type 0 where
  pub long : length notes ≡ 256
  pub has : (p : ℕ) → p < 256 → ltb (get_or notes p 0) 256 ≡ has_entry (decode image) (ticket_in image p)
  pub entry : (p : ℕ) → p < 256 → has_entry (decode image) (ticket_in image p) ≡ true
      → get_or (entries_in image) (get_or notes p 0) no_entry ≡ entry_of (decode image) (ticket_in image p).dock
