-- A room as long as every report is enough; for another the report, run to no output, tells its length.
use Prim.Native.Nat.{ℕ}
use native.Mathlib.Omega.{arith}
use mathlib.Core.Path.{sym, ap, ◌∙◌}
use lib.Dec.{leb}
use lib.ListN.{length}
use borrow.Author.Tests.{le-leb}
use Rattle.image.specs.Image.{decode}
use Rattle.text.proofs.Appending.{measured}
use Rattle.report.specs.Report.{report}
use Rattle.report.proofs.Short.{report_short}
use Rattle.text_report.proofs.fits.Goals as goal

pub returns-then-room-ge-ROOM : goal.returns-then-room-ge-ROOM
returns-then-room-ge-ROOM c =
    let image = c.args.image.now in
    let short = report_short (decode image) c.requires.0.order in
    record {
      value = le-leb _ _ c.if-room-ge-ROOM.true ∙ sym (le-leb (length (report (decode image))) c.args.room (omega (arith, short, c.if-room-ge-ROOM.true)));
      marks_after = c.requires.1;
    }

pub returns-else-room-ge-ROOM : goal.returns-else-room-ge-ROOM
returns-else-room-ge-ROOM c =
    let put = c.put_and_clear.ensures in
    record { value = ap (λ (n : ℕ). leb n c.args.room) (measured _ _ _ _ put.appends); marks_after = put.marks_after }
