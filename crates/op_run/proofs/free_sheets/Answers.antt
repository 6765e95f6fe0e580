-- Where the count stands is `Counted`.
use native.Mathlib.Omega.{arith}
use Rattle.image_read.specs.Places.{entries_in}
use Rattle.op_run.proofs.FreeSheets.{counted_none, counted_free, counted_taken, counted_all}
use Rattle.op_run.proofs.free_sheets.Goals as goal
use Rattle.op_run.proofs.free_sheets.Goals.{then-reach-s, else-reach-s}

pub loop-s-init : goal.loop-s-init
loop-s-init c = counted_none

pub loop-s-preserved : goal.loop-s-preserved
loop-s-preserved c =
    let l = c.loop-s in
    elim c.if-reach-s.branch [
      | then-reach-s w ↦ rw w.free-is (counted_free l.invariant (omega arith) c.max-reach.ensures w.if-reach-s.true)
      | else-reach-s w ↦ rw w.free-is (counted_taken l.invariant (omega arith) c.max-reach.ensures w.if-reach-s.false)
    ]

pub returns : goal.returns
returns c = counted_all c.loop-s.invariant (omega arith) (entries_in c.args.image.now) c.note_ends.ensures.ends
