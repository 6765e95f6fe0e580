-- The first i places have been marked or left.
use Prim.Native.Nat.{◌+◌, ◌*◌, ◌/◌}
use native.Mathlib.Omega.{arith}
use mathlib.Core.Path.{ap, ◌∙◌}
use mathlib.Core.Bool.{false}
use Rattle.lists.proofs.Laid.{one_more}
use Rattle.tables.specs.Names.{name_of}
use Rattle.image.specs.Image.{decode}
use Rattle.image_find.proofs.Laws.{flattened}
use Rattle.op_drop_tickets.specs.Docked.{docked_with, docked_on}
use Rattle.op_drop_tickets.proofs.mark_docked.Goals as goal

pub loop-i-preserved : goal.loop-i-preserved
unfolding docked_on
loop-i-preserved c =
    let a = c.args in
    let l = c.loop-i in
    let t = decode a.image.now in
    let k = c.ticket_at-k.ensures ∙ (flattened a.image.now).same (64 * a.d.pad + l.i) (omega (arith, c.requires, c.loop-i-test.true)) in
    one_more false 64 (docked_on t a.d) l.i l.marks _ l.invariant c.loop-i-test.true
    (c.docked_with.ensures ∙ ap (docked_with t a.d (name_of a.d.pad (l.i / 8) 0)) k)
