-- The children before the index have passed, and the places of their parents are written.
use Prim.Native.Nat.{ℕ, ◌<◌}
use mathlib.Core.Path.{◌≡◌}
use mathlib.Core.Bool.{true}
use lib.ListN.{get_or}
use Rattle.tables.specs.Names.{free}
use Rattle.image_read.specs.Places.{tickets_in}
use Rattle.order_lists.proofs.Laws.{Filled}
use Rattle.order_children.specs.Parts.{child_ok}
use Rattle.order_children.proofs.Children.{up_of}
use Rattle.order_children.proofs.children_ok.Given as goal

abbrev pub invariant-loop-at : goal.invariant-loop-at
invariant-loop-at l =
    ((j : ℕ) → j < l.at-index → child_ok (tickets_in l.image) l.numbers (get_or l.children j 0) (get_or (tickets_in l.image) (get_or l.children j 0) free) ≡ true)
    × Filled 256 256 (λ p. up_of l.numbers (get_or (tickets_in l.image) p free)) l.children l.at-index l.up
