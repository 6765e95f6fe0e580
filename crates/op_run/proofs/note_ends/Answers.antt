-- What is noted, with what is left to note from the place i on, is all that is to be noted: `Noting`.
use Rattle.image_read.specs.Places.{entries_in}
use Rattle.image_read.proofs.Places.{entries_long}
use Rattle.op_run.proofs.Runs.{noting_none, noting_more, noting_end}
use Rattle.op_run.proofs.note_ends.Goals as goal

pub loop-i-init : goal.loop-i-init
loop-i-init c = let bytes = c.args.image.now in noting_none (entries_in bytes) (entries_long bytes)

pub loop-i-preserved : goal.loop-i-preserved
loop-i-preserved c =
    let bytes = c.args.image.now in
    noting_more (entries_in bytes) (entries_long bytes) c.loop-i.invariant c.loop-i-test.true c.entry_at.ensures
    c.note_end-bound.ensures

pub returns : goal.returns
returns c =
    let bytes = c.args.image.now in
    noting_end (entries_in bytes) (entries_long bytes) c.loop-i.invariant c.loop-i-test.false
