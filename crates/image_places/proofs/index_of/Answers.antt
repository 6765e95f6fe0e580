use native.Mathlib.Omega.{arith}
use borrow.Author.Tests.{eq-eqb, ne_eqb}
use lib.Dec.{eqb}
use Rattle.image_places.proofs.Search.{lowest_none, lowest_hit, lowest_miss}
use Rattle.image_places.proofs.index_of.Goals as goal

pub loop-i-init : goal.loop-i-init
loop-i-init c = lowest_none (λ x. eqb x c.args.number) c.args.numbers.now 0

pub loop-i-preserved-then-numbers-i : goal.loop-i-preserved-then-numbers-i
loop-i-preserved-then-numbers-i c =
    lowest_hit (λ x. eqb x c.args.number) c.args.numbers.now 0 c.loop-i.i c.loop-i.found (omega arith) (omega arith)
    c.loop-i.invariant (eq-eqb _ _ c.if-numbers-i.true)

pub loop-i-preserved : goal.loop-i-preserved
loop-i-preserved c =
    lowest_miss (λ x. eqb x c.args.number) c.args.numbers.now 0 c.loop-i.i c.loop-i.found (omega arith) (omega arith)
    c.loop-i.invariant (ne_eqb _ _ c.if-numbers-i.false)
