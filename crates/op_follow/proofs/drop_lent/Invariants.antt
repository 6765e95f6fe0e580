-- The first i places have had their turn.
use Rattle.tables.specs.Change.{drop_entries}
use Rattle.image.specs.Image.{decode}
use Rattle.image_write.specs.Shows.{Holds}
use Rattle.op_follow.specs.Lent.{lent_by}
use Rattle.op_follow.proofs.drop_lent.Given as goal

abbrev pub invariant-loop-i : goal.invariant-loop-i
invariant-loop-i l = Holds l.image (drop_entries (lent_by (decode l.initial.image) l.pad l.marks l.i) (decode l.initial.image))
