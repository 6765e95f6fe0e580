-- The first i places have been marked or left.
use mathlib.Core.Bool.{false}
use Rattle.lists.proofs.Laid.{Laid}
use Rattle.op_drop_tickets.specs.Marks.{goes}
use Rattle.op_drop_tickets.proofs.mark_chains.Given as goal

abbrev pub invariant-loop-i : goal.invariant-loop-i
invariant-loop-i l = Laid false 64 (goes l.up l.also l.x) l.i l.marks
