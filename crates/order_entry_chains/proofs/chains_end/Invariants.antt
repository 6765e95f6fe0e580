use mathlib.Core.Path.{◌≡◌}
use lib.ListN.{length}
use Rattle.order_entry_chains.proofs.Settling.{Walked}
use Rattle.order_entry_chains.proofs.chains_end.Given as goal

abbrev pub invariant-loop-at : goal.invariant-loop-at
invariant-loop-at l = (length l.up ≡ length l.initial.up) × Walked l.initial.up l.hung l.at-index l.up
