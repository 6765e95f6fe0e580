-- No place is free: only the last number is written.
use Rattle.op_insert.proofs.Inserted.{given_nowhere}
use Rattle.op_insert.proofs.give.Goals as goal

pub returns-else-place-lt8 : goal.returns-else-place-lt8
returns-else-place-lt8 c =
    let a = c.args in
    given_nowhere a.image.now a.program c.requires.1 a.k c.free_place-place.ensures c.if-place-lt8.false c.put_last.ensures
