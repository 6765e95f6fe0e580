use Rattle.std.proofs.Common.{◌<◌, ◌/◌, ◌%◌, arith}
use Rattle.tables.specs.Names.{free}
use Rattle.tables.specs.Lookup.{tickets_of}
use Rattle.tables.specs.Change.{is_free}
use Rattle.image.specs.Image.{decode}
use Rattle.image_find.proofs.First.{first_is}
use Rattle.image_find.proofs.Steps.{eight, of_any_program}
use Rattle.image_find.proofs.free_place.Goals as goal

pub returns : goal.returns
unfolding is_free
returns c =
    let s = c.first_place.ensures in
    let image = c.args.image.now in
    let program = c.args.program in
    let low : program < 32 = c.requires in
    let long = eight image (program / 8) (program % 8) (omega arith) (omega arith) in
    first_is is_free free (tickets_of (decode image) (program / 8) (program % 8)) c.first_place.result (omega (arith, long))
    (λ j h.
    let here = of_any_program image program j low (omega (arith, s.most)) in
    let q = s.before j h in cc)
    (λ h.
    let here = of_any_program image program c.first_place.result low (omega (arith, long)) in
    let q = s.there (omega (arith, long)) in cc)
