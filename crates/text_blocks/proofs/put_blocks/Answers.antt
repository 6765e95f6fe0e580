-- The lines of the blocks below m are put.
use native.Mathlib.Omega.{arith}
use Rattle.text_blocks.proofs.Rounds.{round_none, round_end, round_room, round_more}
use Rattle.text_blocks.proofs.put_blocks.Goals as goal

pub loop-m-init : goal.loop-m-init
loop-m-init c = round_none _ _ _

pub put_block-end-requires : goal.put_block-end-requires
put_block-end-requires c =
    let room = round_room _ _ _ _ _ _ c.loop-m.invariant c.loop-m-test.true c.requires.1.1 in
    (c.requires.0, ((c.requires.1.0, c.loop-m-test.true), room))

pub loop-m-preserved : goal.loop-m-preserved
loop-m-preserved c =
    round_more _ _ _ _ _ _ c.loop-m.invariant c.loop-m-test.true _ _ c.put_block-end.ensures

pub returns : goal.returns
returns c = round_end _ _ _ _ _ _ c.loop-m.invariant (omega arith)
