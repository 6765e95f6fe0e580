-- The places before i have passed: `Passed` says what is known then.
use mathlib.Core.Path.{◌≡◌}
use native.Mathlib.Omega.{arith}
use Rattle.order_entry_notes.proofs.Passing.{passed_none, bad_live, passed_free, bad_grant, bad_twice, passed_live, all_noted, all_listed}
use Rattle.order_entry_notes.proofs.note_entries.Goals as goal
use Rattle.order_entry_notes.proofs.note_entries.Goals.{then-e+in_ok-p+else-notes-p-lt256, else-e}

pub loop-i-init : goal.loop-i-init
loop-i-init c = passed_none _ _ _ _ _ _ c.requires (c.told-roots, (c.told-hung, c.told-received))

pub returns-then-live_at-gt1 : goal.returns-then-live_at-gt1
returns-then-live_at-gt1 c = (
  bad_live _ _ _ _ _ _ _ _ _ c.loop-i.invariant c.loop-i-test.true _ c.live_at.ensures (omega arith) _,
  tt,
)

pub returns-in_err-p : goal.returns-in_err-p
returns-in_err-p c =
    rw c.from_residual.ensures (
      bad_grant _ _ _ _ _ _ _ _ _ c.loop-i.invariant c.loop-i-test.true _ c.live_at.ensures (omega arith) _ c.entry_at-e.ensures
          c.if-e.true c.in_err-p.ensures _,
      tt,
    )

pub returns-then-notes-p-lt256 : goal.returns-then-notes-p-lt256
returns-then-notes-p-lt256 c = (
  bad_twice _ _ _ _ _ _ _ _ _ c.loop-i.invariant c.loop-i-test.true _ c.live_at.ensures (omega arith) _ c.entry_at-e.ensures
      c.if-e.true _ c.in_ok-p.ensures (omega arith) _,
  tt,
)

pub loop-i-preserved : goal.loop-i-preserved
loop-i-preserved c =
    elim c.if-e.branch [
      | then-e+in_ok-p+else-notes-p-lt256 w ↦
          rw (w.notes-is, w.roots-is, w.hung-is, w.received-is, w.listed-is)
          (passed_live _ _ _ _ _ _ _ _ _ c.loop-i.invariant c.loop-i-test.true _ c.live_at.ensures (omega arith) _ c.entry_at-e.ensures
          w.if-e.true _ w.in_ok-p.ensures (omega arith) _ _ w.is_root.ensures w.is_hung.ensures _ _
          w.from.ensures w.from-then-e.ensures)
      | else-e w ↦
          rw (w.notes-is, w.roots-is, w.hung-is, w.received-is, w.listed-is)
          (passed_free _ _ _ _ _ _ _ _ _ c.loop-i.invariant c.loop-i-test.true _ c.live_at.ensures (omega arith) _ c.entry_at-e.ensures w.if-e.false)
    ]

pub returns : goal.returns
returns c =
    let end : c.loop-i.i ≡ 256 = omega arith in
    (all_noted _ _ _ _ _ _ _ _ _ c.loop-i.invariant end, all_listed _ _ _ _ _ _ _ _ _ c.loop-i.invariant end)
