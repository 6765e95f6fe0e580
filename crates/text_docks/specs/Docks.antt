-- The dock names of loaded grants, by place: each is the head of its grant's chain.
use Rattle.std.specs.Prelude.{ℕ, ◌<◌, ◌≡◌, true, cond, List, get_or}
use Rattle.tables.specs.declared.{Name.Name, Ticket.Ticket, Tables.Tables}
use Rattle.tables.specs.Kinds.{is_grant}
use Rattle.tables.specs.Names.{free}
use Rattle.tables.specs.Chains.{chain_head}
use Rattle.image.specs.Image.{decode, is_image}
use Rattle.image_places.specs.Places.{name_at}
use Rattle.image_read.specs.Places.{tickets_in, lasts_in, entries_in}

abbrev pub with_dock : Ticket → Name → Ticket
with_dock k dock = record {
  kind = k.kind;
  number = k.number;
  own = k.own;
  other = k.other;
  first = k.first;
  count = k.count;
  rights = k.rights;
  dock = dock;
}

-- the ticket k at the place p, docked at the head of its chain if it is a grant
unfoldable pub docked_at : Tables → ℕ → Ticket → Ticket
docked_at t p k = cond (is_grant k.kind) (with_dock k (chain_head t (name_at p k))) k

pub record Docked (image image' : List ℕ) : Type 0 where
  pub is : is_image image' ≡ true
  pub tickets : (p : ℕ) → p < 256 → get_or (tickets_in image') p free ≡ docked_at (decode image) p (get_or (tickets_in image) p free)
  pub lasts : lasts_in image' ≡ lasts_in image
  pub entries : entries_in image' ≡ entries_in image
