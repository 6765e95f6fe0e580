use mathlib.Core.Path.{◌≡◌}
use Rattle.image.specs.Image.{decode}
use Rattle.image.proofs.RoundTrip.{image_whole}
use Rattle.std.proofs.Common.{rules}
use Rattle.machine.specs.State.{state_of}
use Rattle.machine.specs.Step.{serve}
use Rattle.op_serve.proofs.Parts.{by_fields, same_outcome, left_alone, stopped}
use Rattle.op_serve.proofs.request.Goals as goal

pub returns-in-Err : goal.returns-in-Err
returns-in-Err c =
    left_alone c.type_inv.tables c.requires.is c.refused.ensures
    (stopped (decode c.args.tables.now) c.args.store.now c.args.sheet.now c.args.r c.in-Err.refusal c.in-Err.ensures)

pub unwrap-image-requires : goal.unwrap-image-requires
unwrap-image-requires c = c.as_mut_array.ensures.variant.1 (image_whole c.args.tables.now c.requires.is)

pub returns : goal.returns
returns c =
    let a = c.args in
    let image : c.unwrap-image.result.now ≡ a.tables.now = search rules in
    let store : c.unwrap-store.result.now ≡ a.store.now = search rules in
    let sheet : c.unwrap-sheet.result.now ≡ a.sheet.now = search rules in
    same_outcome (λ i. serve (state_of (decode (image i)) (store i) (sheet i)) a.r) (by_fields c.type_inv.tables c.operate.ensures)
