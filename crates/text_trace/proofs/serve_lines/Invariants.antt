-- Before each line `Going` holds.
use Prim.Native.Nat.{◌+◌, ◌-◌}
use lib.ListN.{length}
use Rattle.lending.specs.Trace.{dock_of}
use Rattle.text_trace.proofs.TraceSteps.{Going}
use Rattle.text_trace.proofs.serve_lines.Given as goal

abbrev pub invariant-loop-from : goal.invariant-loop-from
invariant-loop-from l =
    Going (dock_of l.initial.tables l.initial.store) l.input l.start l.initial.out l.at l.tables l.store l.out l.from l.number l.total

abbrev pub decreases-loop-from : goal.decreases-loop-from
decreases-loop-from l =
    length l.input + 1 - l.from
