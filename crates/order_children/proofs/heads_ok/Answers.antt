-- The chains of the children before the index have come to a head.
use native.Mathlib.Omega.{arith}
use mathlib.Core.Path.{sym}
use lib.ListN.{get_or}
use Rattle.lists.proofs.Tests.{implies_intro}
use Rattle.tables.specs.Kinds.{is_child}
use Rattle.tables.specs.Names.{free}
use Rattle.order_lists.proofs.Laws.{listed_all_at, listed_broken}
use Rattle.order_children.specs.Parts.{heads_ok}
use Rattle.order_children.proofs.Children.{headed, no_head_asked, head_missed}
use Rattle.order_children.proofs.heads_ok.Goals as goal

pub returns-then-end_from-ge256 : goal.returns-then-end_from-ge256
unfolding heads_ok
returns-then-end_from-ge256 c =
    let i = c.loop-at.at-index in
    λ ks z l. listed_broken free (λ k. is_child k.kind) ks 256 _ _ l (headed c.args.up.now) z i (omega arith)
    (head_missed c.args.up.now (get_or c.args.children.now i 0) _ c.from.ensures _ c.end_from.ensures (get_or ks (get_or c.args.children.now i 0) free) (l.passes i (omega arith)) (omega arith))

pub returns : goal.returns
unfolding heads_ok
returns c =
    λ ks z l. sym
    (listed_all_at free (λ k. is_child k.kind) ks 256 _ _ l (headed c.args.up.now) z (λ j h. implies_intro _ _ (λ _. c.loop-at.invariant j (omega arith)))
    (no_head_asked c.args.up.now))
