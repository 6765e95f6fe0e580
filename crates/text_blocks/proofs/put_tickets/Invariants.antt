-- The lines of the tickets of the kind with a number up to the walk's are put.
use Rattle.image.specs.Image.{decode}
use Rattle.saved_blocks.specs.Blocks.{of_kind, ticket_line}
use Rattle.text_blocks.proofs.Going.{Going}
use Rattle.text_blocks.proofs.put_tickets.Given as goal

abbrev pub invariant-loop-i : goal.invariant-loop-i
invariant-loop-i l = Going l.image (of_kind l.kind) (ticket_line (decode l.image)) l.program l.initial.out l.at l.i-iterator l.out l.end
