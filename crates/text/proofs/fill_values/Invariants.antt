-- After i turns the first i values are read, and the rest of the line, from `at` on, decides.
use lib.ListN.{length}
use Rattle.text.proofs.ReadingSteps.{SoFar}
use Rattle.text.proofs.fill_values.Given as goal

abbrev pub invariant-loop-i : goal.invariant-loop-i
invariant-loop-i l = SoFar l.line (length l.initial.values) l.values l.at l.i
