-- `mark_places`: the marks are those of the listed keys before the index (`Marks` in Seen), and those keys are apart. A marked place was
-- seen before.
use Rattle.order_recall_marks.proofs.Seen.{Marks}
use Rattle.order_recall_marks.proofs.mark_places.Given as goal

abbrev pub invariant-loop-at : goal.invariant-loop-at
invariant-loop-at l = Marks l.keys l.recalls l.at-index l.marks
