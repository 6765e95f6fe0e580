-- `write_keys`: the keys of the listed recalls before the index are written; at the end every place has its key.
use Rattle.image_read.specs.Places.{tickets_in}
use Rattle.order_recall_marks.proofs.KeySteps.{Written}
use Rattle.order_recall_marks.proofs.write_keys.Given as goal

abbrev pub invariant-loop-at : goal.invariant-loop-at
invariant-loop-at l = Written l.numbers (tickets_in l.image) l.recalls l.at-index l.keys
