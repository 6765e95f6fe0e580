-- `mark_places`: the marks are those of the listed keys before the index (`Marks` in Seen), and those keys are apart. A marked place was
-- seen before.
use Prim.Native.Nat.{ℕ}
use native.Mathlib.Omega.{arith}
use mathlib.Core.Path.{ap}
use lib.ListN.{get_or}
use Rattle.order_recall_marks.proofs.Seen.{marks_none, marks_skip, marks_more, marks_end}
use Rattle.order_recall_marks.proofs.mark_places.Goals as goal
use Rattle.order_recall_marks.proofs.mark_places.Goals.{then-key-lt256+else-marks-key-ne0, else-key-lt256}

pub loop-at-init : goal.loop-at-init
loop-at-init c = marks_none c.args.keys.now c.args.recalls.now c.args.marks.now c.requires.0

pub loop-at-preserved : goal.loop-at-preserved
loop-at-preserved c =
    let keys = c.args.keys.now in
    let here = ap (λ (p : ℕ). get_or keys p 0) c.from.ensures in
    elim c.if-key-lt256.branch [
      | then-key-lt256+else-marks-key-ne0 w ↦
          rw w.marks-is
          (marks_more keys c.args.recalls.now c.loop-at.at-index c.loop-at.marks c.loop-at.invariant _ here w.if-key-lt256.true w.if-marks-key-ne0.false)
      | else-key-lt256 w ↦
          rw w.marks-is
          (marks_skip keys c.args.recalls.now c.loop-at.at-index c.loop-at.marks c.loop-at.invariant _ here w.if-key-lt256.false)
    ]

pub returns : goal.returns
returns c =
    marks_end c.args.keys.now c.args.recalls.now c.loop-at.at-index c.loop-at.marks c.loop-at.invariant c.told-keys c.requires.1 (omega arith)
