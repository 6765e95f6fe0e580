use native.Mathlib.Omega.{arith}
use mathlib.Core.Path.{refl}
use Rattle.image_read.proofs.Places.{entries_long}
use Rattle.order_roots.proofs.Roots.{swept_none, swept_past, swept_more, swept_shared, swept_end}
use Rattle.order_roots.proofs.roots_apart.Goals as goal
use Rattle.order_roots.proofs.roots_apart.Goals.{then-first-count-gt256-via-then-first-count-gt256, then-first-count-gt256-via-else-first-count-gt256+then-not-mark}

pub loop-at-init : goal.loop-at-init
loop-at-init c = (refl, λ sp. swept_none _ _)

pub returns-then-first-count-gt256 : goal.returns-then-first-count-gt256
returns-then-first-count-gt256 c =
    λ sp.
    let so = c.loop-at.invariant.1 sp in
    let this = rw c.from.ensures at c.entry_at-e.ensures in
    elim c.then-first-count-gt256.branch [
      | then-first-count-gt256-via-then-first-count-gt256 w ↦
          absurd (swept_past _ _ c.requires c.loop-at.at-index c.loop-at-test.true _ so _ this sp (omega arith))
      | then-first-count-gt256-via-else-first-count-gt256+then-not-mark w ↦
          swept_shared _ _ c.requires c.loop-at.at-index c.loop-at-test.true _ so _ this (entries_long c.args.image.now)
          (rw (c.from-first.ensures, c.from-count.ensures) at (w.mark.ensures.shared w.if-not-mark.true))
    ]

pub loop-at-preserved : goal.loop-at-preserved
loop-at-preserved c = (
  omega arith,
  λ sp. swept_more _ _ c.requires c.loop-at.at-index c.loop-at-test.true _ (c.loop-at.invariant.1 sp) _ (rw c.from.ensures at c.entry_at-e.ensures) _
      (rw (c.from-first.ensures, c.from-count.ensures) at (c.mark.ensures.fresh c.if-not-mark.false)) sp,
)

pub returns : goal.returns
returns c =
    λ sp. swept_end _ _ c.requires (entries_long c.args.image.now) c.loop-at.at-index _ (omega arith) (c.loop-at.invariant.1 sp)
