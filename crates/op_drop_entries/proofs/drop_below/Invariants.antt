-- The outer loop is at a turn of the queue (`Going`), the inner one at a place of the entries (`Turning`): from what held where a loop began
-- follows what holds now, whatever the image was before.
use Prim.Native.Nat.{ℕ, ◌-◌, ◌≤◌, ◌<◌}
use mathlib.Core.Path.{◌≡◌}
use mathlib.Core.Bool.{true}
use mathlib.Core.List.{List}
use lib.ListN.{get_or}
use Rattle.tables.specs.Names.{no_name}
use Rattle.image.specs.Image.{is_image}
use Rattle.op_drop_entries.proofs.InImage.{Going}
use Rattle.op_drop_entries.proofs.InImage.{Turning}
use Rattle.op_drop_entries.proofs.drop_below.Given as goal

abbrev pub invariant-loop-i : goal.invariant-loop-i
invariant-loop-i l =
    (is_image l.image ≡ true) × (l.tail ≤ 256)
    × ((bytes : List ℕ) → Going bytes l.at l.initial.image l.initial.queue l.initial.tail l.head → l.head < l.initial.tail → l.n ≡ get_or l.initial.queue l.head no_name → Turning bytes l.at l.image l.queue l.tail l.head l.n l.i)

abbrev pub invariant-loop-head : goal.invariant-loop-head
invariant-loop-head l =
    (is_image l.image ≡ true) × (l.tail ≤ 256) × ((bytes : List ℕ) → Going bytes l.at l.initial.image l.initial.queue l.initial.tail l.initial.head → Going bytes l.at l.image l.queue l.tail l.head)

abbrev pub decreases-loop-head : goal.decreases-loop-head
decreases-loop-head l = 256 - l.head
