-- The first i places of the pad have been cleared of what is marked.
use Prim.Native.Nat.{◌-◌, ◌*◌}
use Rattle.op_clear_tickets.specs.Cleared.{is_marked, Cleared}
use Rattle.op_clear_tickets.proofs.clear_marked.Given as goal

abbrev pub invariant-loop-i : goal.invariant-loop-i
invariant-loop-i l = Cleared (64 * l.pad) l.i (λ p. is_marked l.marks (p - 64 * l.pad)) l.initial.image l.image
