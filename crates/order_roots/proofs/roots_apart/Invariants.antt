use mathlib.Core.Path.{◌≡◌}
use lib.ListN.{length}
use Rattle.image_read.specs.Places.{entries_in}
use Rattle.order_roots.specs.Marks.{Spanned}
use Rattle.order_roots.proofs.Roots.{Swept}
use Rattle.order_roots.proofs.roots_apart.Given as goal

abbrev pub invariant-loop-at : goal.invariant-loop-at
invariant-loop-at l = (length l.marks ≡ 256) × (Spanned (entries_in l.image) → Swept (entries_in l.image) l.roots l.at-index l.marks)
