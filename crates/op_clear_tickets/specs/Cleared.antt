-- Tickets of an image cleared by places: what goes is the free record then, all else is as it was.
use Rattle.std.specs.Prelude.{ℕ, ◌+◌, ◌<◌, ◌≡◌, Bool, true, false, ◌&&◌, cond, List, leb, ltb, get_or}
use Rattle.tables.specs.declared.Ticket.{Ticket}
use Rattle.tables.specs.Kinds.{is_live}
use Rattle.tables.specs.Names.{free}
use Rattle.image.specs.Image.{is_image}
use Rattle.image_read.specs.Places.{tickets_in, lasts_in, entries_in}

-- the live ticket k is marked, i places from the first
abbrev pub is_marked : List Bool → ℕ → Ticket → Bool
is_marked marks i k = is_live k.kind && get_or marks i false

-- one of the places from `start` on, `size` of them
abbrev pub among : ℕ → ℕ → ℕ → Bool
among start size p = leb start p && ltb p (start + size)

-- the ticket k of the place p, or the free record where it goes
unfoldable pub clear_at : ℕ → ℕ → (ℕ → Ticket → Bool) → ℕ → Ticket → Ticket
clear_at start size gone p k = cond (among start size p && gone p k) free k

-- `size` places from `start` on have been cleared of what goes; all else is as it was
pub record Cleared (start size : ℕ) (gone : ℕ → Ticket → Bool) (before after : List ℕ) : Type 0 where
  pub is : is_image after ≡ true
  pub tickets : (p : ℕ) → p < 256 → get_or (tickets_in after) p free ≡ clear_at start size gone p (get_or (tickets_in before) p free)
  pub lasts : lasts_in after ≡ lasts_in before
  pub entries : entries_in after ≡ entries_in before
