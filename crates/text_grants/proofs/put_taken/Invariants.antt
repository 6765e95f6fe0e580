-- The taken grants of the programs below `program` are printed.
use Rattle.text_grants.proofs.Programs.{Round}
use Rattle.text_grants.proofs.put_taken.Given as goal

abbrev pub invariant-loop-program : goal.invariant-loop-program
invariant-loop-program l =
    Round l.image l.initial.marks l.initial.out l.at l.marks l.out l.printing l.program
