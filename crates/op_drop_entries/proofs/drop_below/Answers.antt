-- The outer loop is at a turn of the queue (`Going`), the inner one at a place of the entries (`Turning`): from what held where a loop began
-- follows what holds now, whatever the image was before.
use Prim.Native.Nat.{◌<◌}
use native.Mathlib.Omega.{arith}
use mathlib.Core.Path.{refl, sym, ◌∙◌}
use Rattle.op_drop_entries.proofs.InImage.{going_more, nothing_gone, going_begins, going_ends}
use Rattle.op_drop_entries.proofs.InImage.{turning_kept, turning_room, turning_gone}
use Rattle.op_drop_entries.proofs.drop_below.Goals as goal
use Rattle.op_drop_entries.proofs.drop_below.Goals.{then-is_below, else-is_below}

pub returns-then-at-ge256 : goal.returns-then-at-ge256
returns-then-at-ge256 c =
    nothing_gone c.args.image.now c.args.x c.requires.0 c.requires.1 c.entry_place-at.ensures c.if-at-ge256.true

pub bounds-queue-tail : goal.bounds-queue-tail
bounds-queue-tail c =
    let is = sym c.is_below.ensures ∙ c.if-is_below.true in
    let read = c.entry_at-e.ensures in
    let bytes = c.args.image.now in
    let begun
    = going_begins bytes c.args.x c.requires.0 c.requires.1 c.entry_place-at.ensures c.if-at-ge256.false
    c.none-none.ensures c.put_entry.ensures in
    let going = c.loop-head.invariant.2 bytes begun in
    let t = c.loop-i.invariant.2 bytes going c.loop-head-test.true refl in
    turning_room t c.loop-i-test.true read is

pub loop-i-preserved : goal.loop-i-preserved
loop-i-preserved c =
    let inner = c.loop-i in
    let low = c.loop-i-test.true in
    let read = c.entry_at-e.ensures in
    let bytes = c.args.image.now in
    elim c.if-is_below.branch [
      | then-is_below w ↦
          let is = sym c.is_below.ensures ∙ w.if-is_below.true in
          let begun
          = going_begins bytes c.args.x c.requires.0 c.requires.1 c.entry_place-at.ensures c.if-at-ge256.false c.none-none.ensures c.put_entry.ensures in
          let t = inner.invariant.2 bytes (c.loop-head.invariant.2 bytes begun) c.loop-head-test.true refl in
          let room : inner.tail < 256 = turning_room t low read is in
          let written = w.put_entry-then-is_below.ensures in
          rw (w.image-is, w.queue-is, w.tail-is) (
            written.is,
            omega (arith, room),
            λ bytes g h e. turning_gone (inner.invariant.2 bytes g h e) low read is c.none-none.ensures written,
          )
      | else-is_below w ↦
          let is_not = sym c.is_below.ensures ∙ w.if-is_below.false in
          rw (w.image-is, w.queue-is, w.tail-is)
          (inner.invariant.0, inner.invariant.1, λ bytes g h e. turning_kept (inner.invariant.2 bytes g h e) low read is_not)
    ]

pub loop-head-preserved : goal.loop-head-preserved
loop-head-preserved c =
    let inner = c.loop-i in
    let outer = c.loop-head in
    let more = c.loop-head-test.true in
    (inner.invariant.0, inner.invariant.1, λ bytes g. going_more (inner.invariant.2 bytes (outer.invariant.2 bytes g) more refl) c.loop-i-test.false)

pub returns : goal.returns
returns c =
    let bytes = c.args.image.now in
    let begun
    = going_begins bytes c.args.x c.requires.0 c.requires.1 c.entry_place-at.ensures c.if-at-ge256.false
    c.none-none.ensures c.put_entry.ensures in
    let going = c.loop-head.invariant.2 bytes begun in
    going_ends bytes c.args.x c.requires.0 c.requires.1 c.entry_place-at.ensures c.if-at-ge256.false going c.loop-head-test.false
