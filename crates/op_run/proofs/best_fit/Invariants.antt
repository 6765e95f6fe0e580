-- Where the search stands is `Sought`; behind the last sheet at which an entry begins, nothing is left to see.
use Prim.Native.Nat.{ℕ}
use mathlib.Core.List.{List}
use mathlib.Core.Path.{◌≡◌}
use lib.ListN.{take}
use Rattle.op_run.proofs.BestFit.{Sought}
use Rattle.op_run.proofs.best_fit.Given as goal

abbrev pub invariant-loop-s : goal.invariant-loop-s
invariant-loop-s l = (ends : List ℕ) → l.end-items ≡ take l.bound ends → Sought l.count ends l.found l.start l.s
