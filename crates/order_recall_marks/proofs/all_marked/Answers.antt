-- `all_marked`: the places before the index are marked.
use native.Mathlib.Omega.{arith}
use mathlib.Core.Path.{sym}
use lib.ListN.{get_or}
use borrow.Author.Tests.{eq-eqb}
use Rattle.lists.proofs.Everywhere.{all_intro}
use Rattle.order_recall_marks.specs.Keys.{is_marked}
use Rattle.order_recall_marks.proofs.all_marked.Goals as goal

pub returns : goal.returns
returns c =
    let marks = c.args.marks.now in
    let places = c.args.places.now in
    sym (all_intro 0 (is_marked marks) places (λ j h. eq-eqb (get_or marks (get_or places j 0) 0) 1 (c.loop-at.invariant j (omega arith))))
