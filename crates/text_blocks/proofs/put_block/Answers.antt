-- One return for each sort of block.
use native.Mathlib.Omega.{arith}
use Rattle.image.specs.Image.{decode}
use Rattle.saved_blocks.proofs.BlockLaws.{block_tickets, block_entries}
use Rattle.text_blocks.proofs.Rounds.{block_room, block_put, last_room, last_put}
use Rattle.text_blocks.proofs.put_block.Goals as goal

pub put_last-requires : goal.put_last-requires
put_last-requires c =
    let t = decode c.args.image.now in
    (c.requires.0, (c.if-m-lt32.true, last_room t c.args.m c.if-m-lt32.true _ c.requires.1.1))

pub returns-then-m-lt32 : goal.returns-then-m-lt32
returns-then-m-lt32 c =
    last_put (decode c.args.image.now) c.args.m c.if-m-lt32.true _ _ _ _ c.put_last.ensures

pub put_tickets-requires : goal.put_tickets-requires
put_tickets-requires c =
    let m = c.args.m in
    let is = block_tickets (decode c.args.image.now) m c.if-m-lt32.false (omega arith) in
    (c.requires.0, ((omega arith, (omega (arith, c.if-m-lt32.false), omega (arith, c.if-m-lt160.true))), block_room _ m _ is _ c.requires.1.1))

pub returns-then-m-lt160 : goal.returns-then-m-lt160
returns-then-m-lt160 c =
    let m = c.args.m in
    let is = block_tickets (decode c.args.image.now) m c.if-m-lt32.false (omega arith) in
    block_put _ m _ is _ _ _ _ c.put_tickets.ensures

pub put_entries-requires : goal.put_entries-requires
put_entries-requires c =
    let m = c.args.m in
    let is = block_entries (decode c.args.image.now) m (omega arith) in
    (c.requires.0, ((c.requires.1.0.0, omega arith), block_room _ m _ is _ c.requires.1.1))

pub returns-else-m-lt160 : goal.returns-else-m-lt160
returns-else-m-lt160 c =
    let m = c.args.m in
    let is = block_entries (decode c.args.image.now) m (omega arith) in
    block_put _ m _ is _ _ _ _ c.put_entries.ensures
