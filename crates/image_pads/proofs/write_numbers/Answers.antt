-- The first i numbers have been stored.
use Prim.Native.Nat.{◌+◌, ◌*◌}
use native.Mathlib.Omega.{arith}
use mathlib.Core.Path.{ap, ◌∙◌}
use Rattle.lists.proofs.Laid.{one_more}
use Rattle.lists.proofs.PartLaws.{tabulated}
use Rattle.image.specs.Image.{decode}
use Rattle.image_find.proofs.Laws.{flattened}
use Rattle.image_places.specs.Places.{number_of}
use Rattle.image_pads.specs.Places.{on_pad, numbers_of}
use Rattle.image_pads.proofs.write_numbers.Goals as goal

pub loop-i-preserved : goal.loop-i-preserved
loop-i-preserved c =
    let a = c.args in
    let l = c.loop-i in
    let k = c.ticket_at.ensures ∙ (flattened a.image.now).same (64 * a.pad + l.i) (omega (arith, c.requires, c.told-to, c.loop-i-test.true)) in
    one_more 0 64 (λ j. number_of (on_pad (decode a.image.now) a.pad j)) l.i l.to _ l.invariant (omega (arith, c.told-to, c.loop-i-test.true))
    (c.number_of.ensures ∙ ap number_of k)

pub returns : goal.returns
unfolding numbers_of
returns c =
    let a = c.args in
    tabulated 0 64 c.loop-i.i (λ j. number_of (on_pad (decode a.image.now) a.pad j)) c.loop-i.to (omega (arith, c.told-to, c.loop-i-test.false)) c.loop-i.invariant
