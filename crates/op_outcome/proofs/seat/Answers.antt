use Prim.Native.Nat.{ℕ}
use native.Mathlib.Omega.{arith}
use mathlib.Core.Path.{ap, ◌∙◌}
use lib.ListN.{get_or}
use Rattle.image.specs.Image.{decode}
use Rattle.image_read.specs.Places.{lasts_in}
use Rattle.image_find.proofs.Laws.{flattened, decoded_sized}
use Rattle.op_outcome.proofs.Programs.{is_full}
use Rattle.op_outcome.proofs.seat.Goals as goal

pub returns : goal.returns
returns c =
    let image = c.args.image.now in
    let a = c.args.pad in
    let b = c.args.program in
    let at = c.program_at-at.ensures in
    let long = (decoded_sized image).tickets a b (omega (arith, c.requires.pad)) (omega (arith, c.requires.program)) in
    record {
      full = is_full (decode image) a b c.requires.program _ at long _ c.free_place.ensures;
      last = c.last_at.ensures ∙ ap (λ (m : ℕ). get_or (lasts_in image) m 0) at ∙ (flattened image).last a b (omega (arith, c.requires.pad)) (omega (arith, c.requires.program));
    }
