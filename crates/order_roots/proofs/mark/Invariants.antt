use Prim.Native.Nat.{◌-◌}
use Rattle.order_roots.specs.Marks.{Fresh}
use Rattle.order_roots.proofs.mark.Given as goal

abbrev pub invariant-loop-s : goal.invariant-loop-s
invariant-loop-s l = Fresh l.first (l.s - l.first) l.initial.marks l.marks
