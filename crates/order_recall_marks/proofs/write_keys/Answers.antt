-- `write_keys`: the keys of the listed recalls before the index are written; at the end every place has its key.
use native.Mathlib.Omega.{arith}
use mathlib.Core.Path.{sym, subst}
use Rattle.image_read.specs.Places.{tickets_in}
use Rattle.image_read.proofs.Places.{tickets_long}
use Rattle.order_lists.proofs.Laws.{filled_none}
use Rattle.order_recall_marks.proofs.KeySteps.{Written, written, all_written}
use Rattle.order_recall_marks.proofs.write_keys.Goals as goal

pub loop-at-init : goal.loop-at-init
loop-at-init c =
    subst (Written c.args.numbers.now (tickets_in c.args.image.now) c.args.recalls.now 0) (sym c.requires.0) (filled_none 256 256 _ _)

pub loop-at-preserved : goal.loop-at-preserved
loop-at-preserved c =
    written _ _ _ c.requires.1 c.loop-at.at-index c.loop-at.keys c.loop-at.invariant c.loop-at-test.true _ _ _ c.from-at.ensures c.ticket_at.ensures
    c.target_key.ensures

pub returns : goal.returns
returns c =
    all_written _ _ _ c.requires.1 (tickets_long c.args.image.now) c.loop-at.at-index c.loop-at.keys (omega arith) c.loop-at.invariant
