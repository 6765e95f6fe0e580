-- Where the count stands is `Counted`.
use Rattle.op_run.proofs.FreeSheets.{Counted}
use Rattle.op_run.proofs.free_sheets.Given as goal

abbrev pub invariant-loop-s : goal.invariant-loop-s
invariant-loop-s l = Counted l.end-items l.reach l.free l.s
