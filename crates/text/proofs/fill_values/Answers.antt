-- After i turns the first i values are read, and the rest of the line, from `at` on, decides.
use native.Mathlib.Omega.{arith}
use Rattle.text.proofs.ReadingSteps.{and_more}
use Rattle.text.proofs.fill_values.Goals as goal

pub loop-i-preserved : goal.loop-i-preserved
loop-i-preserved c = and_more _ _ _ _ _ c.loop-i.invariant _ c.in-Some.ensures (omega arith) c.if-at-line.false
