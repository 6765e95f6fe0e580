-- The output has the first `at` bytes of the line, and the values from place i on make the rest.
use native.Mathlib.Omega.{arith}
use Rattle.text.proofs.WritingSteps.{laid_room, laid_more, laid_end}
use Rattle.text.proofs.lay_values.Goals as goal

pub overflow_add-at : goal.overflow_add-at
overflow_add-at c = omega (arith, laid_room _ _ _ _ _ c.loop-i.invariant (omega arith) _ _ c.put_number-at.ensures)

pub bounds-out-at : goal.bounds-out-at
bounds-out-at c = omega (arith, laid_room _ _ _ _ _ c.loop-i.invariant (omega arith) _ _ c.put_number-at.ensures)

pub overflow_add-at-in-loop-i : goal.overflow_add-at-in-loop-i
overflow_add-at-in-loop-i c = omega (arith, laid_room _ _ _ _ _ c.loop-i.invariant (omega arith) _ _ c.put_number-at.ensures)

pub loop-i-preserved : goal.loop-i-preserved
loop-i-preserved c =
    laid_more _ _ _ _ _ c.loop-i.invariant (omega arith) _ _ c.put_number-at.ensures _ c.separator.ensures

pub returns : goal.returns
returns c = laid_end _ _ _ _ _ c.loop-i.invariant (omega arith)
