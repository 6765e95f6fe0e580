-- The first i places have had their turn.
use Prim.Native.Nat.{◌+◌, ◌*◌}
use native.Mathlib.Omega.{arith}
use mathlib.Core.Path.{refl, sym, ◌∙◌}
use Rattle.image.specs.Image.{decode}
use Rattle.image_find.proofs.Laws.{flattened}
use Rattle.op_follow.proofs.Turns.{turned, passed}
use Rattle.op_follow.proofs.drop_lent.Goals as goal
use Rattle.op_follow.proofs.drop_lent.Goals.{then-is_lending, else-is_lending}

pub loop-i-preserved : goal.loop-i-preserved
loop-i-preserved c =
    let a = c.args in
    let l = c.loop-i in
    let t = decode a.image.now in
    let linked = c.requires.1.1 in
    let here = c.ticket_at-k.ensures ∙ (flattened l.image).same (64 * a.pad + l.i) (omega (arith, c.requires.1.0, c.loop-i-test.true)) in
    let test = sym c.is_lending.ensures in
    let marks = a.marks.now in
    let u = decode l.image in
    let gone = l.invariant.tables in
    elim c.if-is_lending.branch [
      | then-is_lending w ↦ rw w.image-is (turned t linked a.pad marks l.i u gone _ here (test ∙ w.if-is_lending.true) w.drop_below.ensures)
      | else-is_lending w ↦ rw w.image-is (passed t linked a.pad marks l.i u gone _ here (test ∙ w.if-is_lending.false) l.invariant.is refl)
    ]
