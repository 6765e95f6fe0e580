-- T1, T2 and T4 as the code tests them, place by place, and what it keeps of the tickets on the way.
use Rattle.std.specs.Prelude.{ℕ, ◌-◌, ◌*◌, ◌/◌, ◌≡◌, Bool, ◌&&◌, List, map, eqb, leb, length, get_or, take, drop}
use Rattle.lists.specs.Tests.{implies, between}
use Rattle.lists.specs.Lists.{first_index}
use Rattle.tables.specs.declared.{Name.Name, Ticket.Ticket}
use Rattle.tables.specs.Kinds.{is_grant, is_head, is_taken, is_child, is_recall}
use Rattle.tables.specs.Names.{eq_name, free}
use Rattle.tables.specs.Order.{span_ok}
use Rattle.image_places.specs.Places.{name_at, number_of}
use Rattle.order_lists.specs.Listing.{Listing}

-- the number is none of those
unfoldable pub is_new : ℕ → List ℕ → Bool
is_new number numbers = leb (length numbers) (first_index (λ x. eqb x number) numbers)

-- T2 and T4, of one ticket
unfoldable pub grant_ok : Name → Ticket → Bool
grant_ok n k = implies (is_grant k.kind) (span_ok k && implies (is_head k.kind) (eq_name k.dock n))

-- the numbers of the places before one in its program
abbrev pub before : ℕ → List ℕ → List ℕ
before at numbers = take (at - 8 * (at / 8)) (drop (8 * (at / 8)) numbers)

-- T1, T2 and T4, of the ticket at a place
unfoldable pub ticket_ok : List ℕ → List ℕ → ℕ → Ticket → Bool
ticket_ok lasts numbers at k = between 1 (get_or lasts (at / 8) 0) k.number && is_new k.number (before at numbers) && grant_ok (name_at at k) k

-- the number of each live ticket, 0 where there is none, and the places of taken grants, children and recalls
pub record Indexed (tickets : List Ticket) (numbers taken children recalls : List ℕ) (a b c : ℕ) : Type 0 where
  pub written : numbers ≡ map number_of tickets
  pub taken_listed : Listing free (λ k. is_taken k.kind) tickets 256 taken a
  pub children_listed : Listing free (λ k. is_child k.kind) tickets 256 children b
  pub recalls_listed : Listing free (λ k. is_recall k.kind) tickets 256 recalls c
