-- T3 as the code tests it, over all tickets by place.
use Rattle.std.specs.Prelude.{ℕ, ◌<◌, ◌≡◌, Bool, ◌&&◌, cond, List, ltb, length, get_or}
use Rattle.lists.specs.Tests.{implies}
use Rattle.lists.specs.Lists.{all_at}
use Rattle.tables.specs.declared.Ticket.{Ticket}
use Rattle.tables.specs.Kinds.{is_child}
use Rattle.tables.specs.Names.{free}
use Rattle.tables.specs.Order.{parent_ok}
use Rattle.image_places.specs.Walk.{end_from}
use Rattle.image_places.specs.Places.{name_at, place_in}

-- T3 of the ticket k at the place p, but for the chain: its parent has a place, and suits it
unfoldable pub child_ok : List Ticket → List ℕ → ℕ → Ticket → Bool
child_ok tickets numbers p k =
    implies (is_child k.kind)
    (ltb (place_in numbers k.other) 256 && parent_ok (name_at p k) k (get_or tickets (place_in numbers k.other) free))

unfoldable pub children_ok : List Ticket → List ℕ → Bool
children_ok tickets numbers = all_at (child_ok tickets numbers) 0 tickets

-- the place of each child's parent; 256 for every other place
pub record Ups (tickets : List Ticket) (numbers up : List ℕ) : Type 0 where
  pub long : length up ≡ 256
  pub at : (p : ℕ) → p < 256 → get_or up p 0 ≡ cond (is_child (get_or tickets p free).kind) (place_in numbers (get_or tickets p free).other) 256

-- each child's chain comes to a place without a parent
unfoldable pub heads_ok : List Ticket → List ℕ → Bool
heads_ok tickets up = all_at (λ p k. implies (is_child k.kind) (ltb (end_from 64 up p) 256)) 0 tickets
