-- `dead_once`: the list has the dead ones of the listed keys before the index (`Dead` in Seen), and those keys are apart. A key in it was
-- seen before.
use Rattle.order_recall_marks.proofs.Seen.{Dead}
use Rattle.order_recall_marks.proofs.dead_once.Given as goal

abbrev pub invariant-loop-at : goal.invariant-loop-at
invariant-loop-at l = Dead l.keys l.recalls l.at-index l.count l.dead
