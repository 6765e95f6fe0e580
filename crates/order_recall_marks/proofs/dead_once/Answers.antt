-- `dead_once`: the list has the dead ones of the listed keys before the index (`Dead` in Seen), and those keys are apart. A key in it was
-- seen before.
use Prim.Native.Nat.{ℕ}
use native.Mathlib.Omega.{arith}
use mathlib.Core.Path.{sym, ap, ◌∙◌}
use lib.ListN.{get_or}
use Rattle.order_recall_marks.proofs.Seen.{dead_skip, dead_more, dead_not, dead_end}
use Rattle.order_recall_marks.proofs.dead_once.Goals as goal
use Rattle.order_recall_marks.proofs.dead_once.Goals.{then-key-gt256+else-contains, else-key-gt256}

pub returns-then-contains : goal.returns-then-contains
returns-then-contains c =
    let keys = c.args.keys.now in
    dead_not keys c.args.recalls.now c.loop-at.at-index c.loop-at.count c.loop-at.dead c.loop-at.invariant _ (ap (λ (p : ℕ). get_or keys p 0) c.from.ensures)
    c.if-key-gt256.true c.told-keys c.requires c.loop-at-test.true (sym c.contains.ensures.value ∙ c.if-contains.true)

pub loop-at-preserved : goal.loop-at-preserved
loop-at-preserved c =
    let keys = c.args.keys.now in
    let here = ap (λ (p : ℕ). get_or keys p 0) c.from.ensures in
    elim c.if-key-gt256.branch [
      | then-key-gt256+else-contains w ↦
          rw (w.dead-is, w.count-is)
          (dead_more keys c.args.recalls.now c.loop-at.at-index c.loop-at.count c.loop-at.dead c.loop-at.invariant _ here w.if-key-gt256.true
          (omega (arith, c.requires.most)) (sym w.contains.ensures.value ∙ w.if-contains.false))
      | else-key-gt256 w ↦
          rw (w.dead-is, w.count-is)
          (dead_skip keys c.args.recalls.now c.loop-at.at-index c.loop-at.count c.loop-at.dead c.loop-at.invariant _ here w.if-key-gt256.false)
    ]

pub returns : goal.returns
returns c =
    dead_end c.args.keys.now c.args.recalls.now c.loop-at.at-index c.loop-at.count c.loop-at.dead c.loop-at.invariant c.told-keys c.requires
    (omega arith)
