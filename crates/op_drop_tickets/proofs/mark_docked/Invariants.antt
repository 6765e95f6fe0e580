-- The first i places have been marked or left.
use mathlib.Core.Bool.{false}
use Rattle.lists.proofs.Laid.{Laid}
use Rattle.image.specs.Image.{decode}
use Rattle.op_drop_tickets.specs.Docked.{docked_on}
use Rattle.op_drop_tickets.proofs.mark_docked.Given as goal

abbrev pub invariant-loop-i : goal.invariant-loop-i
invariant-loop-i l = Laid false 64 (docked_on (decode l.image) l.d) l.i l.marks
