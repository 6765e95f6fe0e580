-- What is counted is `total` for the values so far, and the line of those behind them.
use Prim.Native.Nat.{◌+◌, ◌≤◌}
use mathlib.Core.Path.{◌≡◌}
use lib.ListN.{length, drop}
use Rattle.text.specs.Writing.{values_line}
use Rattle.text.specs.Appending.{highest_count, counted}
use Rattle.text.proofs.line_length.Given as goal

abbrev pub invariant-loop-v : goal.invariant-loop-v
invariant-loop-v l =
    (l.total ≤ highest_count) × (counted (length (values_line l.values)) ≡ counted (l.total + length (values_line (drop l.v-index l.values))))
