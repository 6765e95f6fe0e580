-- The first i entries are noted.
use native.Mathlib.Omega.{arith}
use Rattle.text_notes.proofs.Noting.{read, not_live, notes_none, notes_skip, notes_more, notes_end}
use Rattle.text_notes.proofs.note_entries.Goals as goal
use Rattle.text_notes.proofs.note_entries.Goals.{then-live_at-eq1, else-live_at-eq1}

pub loop-i-init : goal.loop-i-init
loop-i-init c = notes_none c.args.image.now c.args.notes.now c.requires.1

pub offset_bounds-notes-p : goal.offset_bounds-notes-p
offset_bounds-notes-p c =
    let it = read c.args.image.now c.requires.0 _ _ _ _ c.loop-i-test.true c.live_at.ensures c.if-live_at-eq1.true c.entry_at-e.ensures c.ticket_place-p.ensures in
    omega (arith, it.low)

pub bounds-notes-p : goal.bounds-notes-p
bounds-notes-p c =
    let it = read c.args.image.now c.requires.0 _ _ _ _ c.loop-i-test.true c.live_at.ensures c.if-live_at-eq1.true c.entry_at-e.ensures c.ticket_place-p.ensures in
    omega (arith, it.low, c.loop-i.invariant.long)

pub loop-i-preserved : goal.loop-i-preserved
loop-i-preserved c =
    let image = c.args.image.now in
    let low = c.loop-i-test.true in
    elim c.if-live_at-eq1.branch [
      | then-live_at-eq1 w ↦
          let it = read image c.requires.0 _ _ _ _ low c.live_at.ensures w.if-live_at-eq1.true w.entry_at-e.ensures w.ticket_place-p.ensures in
          rw w.notes-is (notes_more image c.requires.0 _ _ c.loop-i.invariant low _ it)
      | else-live_at-eq1 w ↦
          rw w.notes-is (notes_skip image _ _ c.loop-i.invariant low (not_live image _ _ low c.live_at.ensures w.if-live_at-eq1.false))
    ]

pub returns : goal.returns
returns c = notes_end c.args.image.now c.requires.0 _ c.loop-i.i c.loop-i.invariant c.loop-i-test.false
