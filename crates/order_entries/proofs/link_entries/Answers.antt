use native.Mathlib.Omega.{arith}
use mathlib.Core.Path.{sym, ◌∙◌}
use Rattle.image_read.proofs.Places.{entries_long}
use Rattle.order_entries.proofs.Linking.{linked_none, linked_lost, linked_bad, linked_more, linked_end}
use Rattle.order_entries.proofs.link_entries.Goals as goal

pub loop-at-init : goal.loop-at-init
loop-at-init c = linked_none _ _ _ _ _ c.requires.1

pub returns-then-q-ge256 : goal.returns-then-q-ge256
returns-then-q-ge256 c =
    linked_lost _ _ _ _ (entries_long c.args.image.now) c.requires.0 c.loop-at.at-index c.loop-at-test.true _ c.from-at.ensures _
    c.entry_at-e.ensures _ c.note_of-q.ensures c.if-q-ge256.true _

pub returns-then-not-parent_entry_ok : goal.returns-then-not-parent_entry_ok
returns-then-not-parent_entry_ok c =
    linked_bad _ _ _ _ (entries_long c.args.image.now) c.requires.0 c.loop-at.at-index c.loop-at-test.true _ c.from-at.ensures _
    c.entry_at-e.ensures _ c.note_of-q.ensures _ (rw c.from.ensures at c.entry_at-parent.ensures)
    (sym c.if-not-parent_entry_ok.true ∙ c.parent_entry_ok.ensures) _

pub loop-at-preserved : goal.loop-at-preserved
loop-at-preserved c =
    linked_more _ _ _ _ (entries_long c.args.image.now) c.requires.0 c.loop-at.at-index c.loop-at-test.true _ c.from-at.ensures _
    c.entry_at-e.ensures _ c.note_of-q.ensures _ (rw c.from.ensures at c.entry_at-parent.ensures) _ c.loop-at.invariant
    (sym c.if-not-parent_entry_ok.false ∙ c.parent_entry_ok.ensures)

pub returns : goal.returns
returns c =
    linked_end _ _ _ _ (entries_long c.args.image.now) c.requires.0 c.loop-at.at-index _ (omega arith) c.loop-at.invariant
