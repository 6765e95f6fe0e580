-- `recalls_ok`: where nothing is listed there is nothing to test. Else the first part of T6 that fails settles T6; where none fails, the
-- marks do.
use native.Mathlib.Omega.{arith}
use mathlib.Core.Path.{sym, subst, ◌∙◌}
use borrow.Author.Tests.{eqb-true}
use borrow.Author.Rules.{rules}
use Rattle.image_read.specs.Places.{tickets_in}
use Rattle.image_read.proofs.Places.{tickets_long}
use Rattle.order_recall_marks.specs.Keys.{Marked}
use Rattle.order_recall_marks.proofs.Laws.{keys_listed}
use Rattle.order_recalls.proofs.Whole.{targets_fit, not_each, two_places, two_dead, child_unmarked, whole}
use Rattle.order_recalls.proofs.NoRecalls.{no_recalls}
use Rattle.order_recalls.proofs.recalls_ok.Goals as goal
use Rattle.order_recalls.proofs.recalls_ok.Goals.{then-dead_once, else-dead_once, then-mark_places, else-mark_places}

pub returns-then-is_empty-3 : goal.returns-then-is_empty-3
returns-then-is_empty-3 c =
    λ t x. no_recalls x _ _ _ c.requires.0.0 c.requires.0.1 c.requires.1
    (eqb-true _ _ (sym c.is_empty.ensures ∙ c.if-is_empty.true))
    (eqb-true _ _ (sym c.is_empty-then-is_empty.ensures ∙ c.if-is_empty-2.true))
    (eqb-true _ _ (sym c.is_empty-then-is_empty-2.ensures ∙ c.if-is_empty-3.true))

pub returns-then-not-each_holds : goal.returns-then-not-each_holds
returns-then-not-each_holds c = λ t x. not_each x (sym (c.each_holds.ensures t x) ∙ c.if-not-each_holds.true)

pub mark_places-requires : goal.mark_places-requires
mark_places-requires c = (search rules, keys_listed c.args.numbers.now _ (tickets_in c.args.image.now) _ c.write_keys.ensures (tickets_long c.args.image.now) c.requires.0.1)

pub dead_once-requires : goal.dead_once-requires
dead_once-requires c = keys_listed c.args.numbers.now _ (tickets_in c.args.image.now) _ c.write_keys.ensures (tickets_long c.args.image.now) c.requires.0.1

pub returns-then-all_marked : goal.returns-then-all_marked
returns-then-all_marked c =
    let fits = targets_fit c.args.image.now (λ i. omega (arith, c.fits-image i)) in
    λ t x. elim c.if-dead_once.branch [
      | then-dead_once d ↦
          elim c.if-mark_places.branch [
            | then-mark_places m ↦
                c.all_marked-then-all_marked.ensures
                ∙ whole x fits c.write_keys.ensures (sym (c.each_holds.ensures t x) ∙ c.if-not-each_holds.false) _
                (subst (Marked _ _) m.if-mark_places.true c.mark_places.ensures) (sym m.dead_once.ensures ∙ sym m.value-is ∙ d.if-dead_once.true) _ _
                c.requires.0.0 c.requires.1 (sym d.all_marked.ensures ∙ sym d.value-is ∙ c.if-all_marked.true)
            | else-mark_places m ↦ cc
          ]
      | else-dead_once d ↦ cc
    ]

pub returns-else-all_marked : goal.returns-else-all_marked
returns-else-all_marked c =
    let fits = targets_fit c.args.image.now (λ i. omega (arith, c.fits-image i)) in
    λ t x. c.if-all_marked.false
    ∙ elim c.if-dead_once.branch [
      | then-dead_once d ↦
          elim c.if-mark_places.branch [
            | then-mark_places m ↦
                child_unmarked x fits c.write_keys.ensures (sym (c.each_holds.ensures t x) ∙ c.if-not-each_holds.false) _
                (subst (Marked _ _) m.if-mark_places.true c.mark_places.ensures) (sym m.dead_once.ensures ∙ sym m.value-is ∙ d.if-dead_once.true) _
                c.requires.0.0 (sym d.all_marked.ensures ∙ sym d.value-is ∙ c.if-all_marked.false)
            | else-mark_places m ↦ cc
          ]
      | else-dead_once d ↦
          elim c.if-mark_places.branch [
            | then-mark_places m ↦ two_dead x fits c.write_keys.ensures (sym m.dead_once.ensures ∙ sym m.value-is ∙ d.if-dead_once.false)
            | else-mark_places m ↦ two_places x fits c.write_keys.ensures (sym c.mark_places.ensures.once ∙ m.if-mark_places.false)
          ]
    ]
