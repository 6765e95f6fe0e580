-- What was written lies within the output.
use Rattle.std.proofs.Common.{arith}
use Rattle.text.proofs.WritingLaws.{written_within}
use Rattle.test_cases.proofs.traces_to.Goals as goal

pub slice_bounds-same-end : goal.slice_bounds-same-end
slice_bounds-same-end c = omega (arith, written_within _ _ _ _ c.trace-size.ensures, c.trace-size.auto.out)

pub shared_ref_as_front-same : goal.shared_ref_as_front-same
shared_ref_as_front-same c = omega (arith, written_within _ _ _ _ c.trace-size.ensures, c.trace-size.auto.out)
