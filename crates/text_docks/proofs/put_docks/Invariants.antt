use Rattle.text_docks.proofs.Docking.{Docking}
use Rattle.text_docks.proofs.put_docks.Given as goal

abbrev pub invariant-loop-place : goal.invariant-loop-place
invariant-loop-place l = Docking l.initial.image l.image l.place
