-- What was written lies within the output.
use Rattle.std.proofs.Common.{arith}
use Rattle.text.proofs.WritingLaws.{written_within}
use Rattle.trace.proofs.whole_trace.Goals as goal

pub returns-clause-upper_bound : goal.returns-clause-upper_bound
returns-clause-upper_bound c = omega (arith, written_within _ _ _ _ c.trace.ensures, c.trace.auto.out)
