-- `each_holds`: before each turn the recalls at the listed places before the index hold, in any tables that are laid out so. Each way
-- through a turn ends in one of the cases of OneRecall: the recall does not hold, and the answer is no, or it does.
use Rattle.tables.specs.declared.Tables.{Tables}
use Rattle.order_recalls.specs.Recalls.{LaidOut}
use Rattle.order_recalls.proofs.OneRecall.{Held}
use Rattle.order_recalls.proofs.each_holds.Given as goal

abbrev pub invariant-loop-at : goal.invariant-loop-at
invariant-loop-at l = (t : Tables) → LaidOut t l.image l.numbers l.notes → Held t l.recalls l.at-index
