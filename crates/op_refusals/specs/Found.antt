-- What take and pass look up of a program, and a pass past its ticket.
use Rattle.std.specs.Prelude.{ℕ, ◌≡◌, Bool, not, ◌&&◌, eqb}
use Rattle.tables.specs.declared.{Ticket.Ticket, Tables.Tables}
use Rattle.tables.specs.Lookup.{last_of, entry_of}
use Rattle.tables.specs.Change.{has_place}
use Rattle.machine.specs.declared.Request.{Request}
use Rattle.op_refusals.specs.declared.Seat.{Seat}

-- a program's seat
pub record SeatOf (t : Tables) (pad program : ℕ) (s : Seat) : Type 0 where
  pub full : s.full ≡ not (has_place t pad program)
  pub last : s.last ≡ last_of t pad program

-- "to another pad only, the dock has no entry of the ticket's dock name"
abbrev pub is_lost : Tables → Request → Ticket → Bool
is_lost t r k = not (eqb r.pad r.topad) && not (entry_of t k.dock).live

-- for a pass of the ticket k: the seats of asker and recipient, and whether the ticket's entry is lost
pub record Found (t : Tables) (r : Request) (k : Ticket) (p q : Seat) (lost : Bool) : Type 0 where
  pub asker : SeatOf t r.pad r.program p
  pub recipient : SeatOf t r.topad r.toprogram q
  pub entry : lost ≡ is_lost t r k
