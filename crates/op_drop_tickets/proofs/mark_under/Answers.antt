-- What was written and found is the tables' own.
use Rattle.image.specs.Image.{decode}
use Rattle.op_drop_tickets.proofs.Steps.{marks_under}
use Rattle.op_drop_tickets.proofs.mark_under.Goals as goal

pub returns : goal.returns
returns c =
    let a = c.args in
    marks_under (decode a.image.now) a.also a.x _ _ _ _ c.write_numbers.ensures c.write_ups.ensures c.place_in-beside.ensures
    c.place_in-top.ensures _ c.mark_chains.ensures
