-- The first i places of the program have been cleared of the name's ticket.
use Rattle.tables.specs.Lookup.{has_number}
use Rattle.image_places.specs.Places.{start_of}
use Rattle.op_clear_tickets.specs.Cleared.{Cleared}
use Rattle.op_drop_tickets.proofs.drop_one.Given as goal

abbrev pub invariant-loop-i : goal.invariant-loop-i
invariant-loop-i l = Cleared (start_of l.n) l.i (λ p. has_number l.n.number) l.initial.image l.image
