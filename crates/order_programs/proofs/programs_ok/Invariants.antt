-- The places before i have passed: `Passed` says what is known then.
use Rattle.order_programs.proofs.Passing.{Passed}
use Rattle.order_programs.proofs.programs_ok.Given as goal

abbrev pub invariant-loop-i : goal.invariant-loop-i
invariant-loop-i l = Passed l.image l.i l.numbers l.taken l.children l.recalls l.listed.taken l.listed.children l.listed.recalls
