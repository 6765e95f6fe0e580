-- The output has the first `at` bytes of the line, and the values from place i on make the rest.
use Rattle.text.proofs.WritingSteps.{Laid}
use Rattle.text.proofs.lay_values.Given as goal

abbrev pub invariant-loop-i : goal.invariant-loop-i
invariant-loop-i l = Laid l.values l.initial.out l.out l.at l.i
