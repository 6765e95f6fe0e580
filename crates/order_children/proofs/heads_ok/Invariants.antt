-- The chains of the children before the index have come to a head.
use Prim.Native.Nat.{ℕ, ◌<◌}
use mathlib.Core.Path.{◌≡◌}
use mathlib.Core.Bool.{true}
use lib.Dec.{ltb}
use lib.ListN.{get_or}
use Rattle.image_places.specs.Walk.{end_from}
use Rattle.order_children.proofs.heads_ok.Given as goal

abbrev pub invariant-loop-at : goal.invariant-loop-at
invariant-loop-at l = (j : ℕ) → j < l.at-index → ltb (end_from 64 l.up (get_or l.children j 0)) 256 ≡ true
