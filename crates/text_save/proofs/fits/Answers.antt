-- A room as long as every text is enough; for another the text, run to no output, tells its length.
use Prim.Native.Nat.{ℕ}
use native.Mathlib.Omega.{arith}
use mathlib.Core.Path.{sym, ap, ◌∙◌}
use lib.Dec.{leb}
use lib.ListN.{length}
use borrow.Author.Tests.{le-leb}
use Rattle.image.specs.Image.{decode}
use Rattle.text.proofs.Appending.{measured}
use Rattle.saved.specs.Save.{saved}
use Rattle.text_save.proofs.WholeText.{text_short}
use Rattle.text_save.proofs.fits.Goals as goal

pub returns-then-room-ge-ROOM : goal.returns-then-room-ge-ROOM
returns-then-room-ge-ROOM c =
    let image = c.args.image.now in
    let short = text_short image c.requires (λ i. omega (arith, c.fits-image i)) in
    le-leb _ _ c.if-room-ge-ROOM.true ∙ sym (le-leb (length (saved (decode image))) c.args.room (omega (arith, short, c.if-room-ge-ROOM.true)))

pub returns-else-room-ge-ROOM : goal.returns-else-room-ge-ROOM
returns-else-room-ge-ROOM c = ap (λ (n : ℕ). leb n c.args.room) (measured _ _ _ _ c.put_saved.ensures)
