-- What is noted, with what is left to note from the place i on, is all that is to be noted: `Noting`.
use Rattle.image_read.specs.Places.{entries_in}
use Rattle.op_run.proofs.Runs.{Noting}
use Rattle.op_run.proofs.note_ends.Given as goal

abbrev pub invariant-loop-i : goal.invariant-loop-i
invariant-loop-i l = Noting (entries_in l.image) l.initial.ends l.ends l.bound l.i
