-- The names, then the lines.
use native.Mathlib.Omega.{arith}
use Rattle.text.specs.Bytes.{bytes}
use Rattle.saved.specs.Row.{column_names}
use Rattle.text_save.proofs.WholeText.{lines_room, put_whole}
use Rattle.text_save.proofs.put_saved.Goals as goal

pub put_rows-requires : goal.put_rows-requires
unfolding column_names bytes
put_rows-requires c =
    let room = lines_room c.args.image.now c.requires (λ i. omega (arith, c.fits-image i)) _ _ _ c.append-at.ensures in
    (c.requires, room)

pub returns : goal.returns
unfolding column_names bytes
returns c =
    put_whole c.args.image.now c.requires (λ i. omega (arith, c.fits-image i)) _ _ _ c.append-at.ensures _ _
    c.put_rows.ensures
