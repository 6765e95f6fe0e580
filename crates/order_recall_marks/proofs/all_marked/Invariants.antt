-- `all_marked`: the places before the index are marked.
use Prim.Native.Nat.{ℕ, ◌<◌}
use mathlib.Core.Path.{◌≡◌}
use lib.ListN.{get_or}
use Rattle.order_recall_marks.proofs.all_marked.Given as goal

abbrev pub invariant-loop-at : goal.invariant-loop-at
invariant-loop-at l = (j : ℕ) → j < l.at-index → get_or l.marks (get_or l.places j 0) 0 ≡ 1
