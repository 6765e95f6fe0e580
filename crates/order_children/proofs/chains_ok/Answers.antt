use mathlib.Core.Path.{sym, ◌∙◌}
use borrow.Author.Tests.{eqb-true}
use Rattle.image_read.specs.Places.{tickets_in}
use Rattle.image_read.proofs.Places.{tickets_long}
use Rattle.order_children.proofs.Heads.{parents_say, parents_missing, heads_decide, no_children}
use Rattle.order_children.proofs.chains_ok.Goals as goal

pub returns-then-is_empty : goal.returns-then-is_empty
returns-then-is_empty c =
    λ t flat ix. no_children t _ _ c.args.numbers.now flat ix _ c.requires (eqb-true _ _ (sym c.is_empty.ensures ∙ c.if-is_empty.true))

pub returns-else-children_ok : goal.returns-else-children_ok
returns-else-children_ok c =
    λ t flat ix. c.if-children_ok.false ∙ parents_missing t _ _ c.args.numbers.now flat ix (sym c.if-children_ok.false ∙ c.children_ok.ensures.0)

pub returns-then-children_ok : goal.returns-then-children_ok
returns-then-children_ok c =
    let ok = c.if-children_ok.true in
    λ t flat ix. c.heads_ok.ensures (tickets_in c.args.image.now) (tickets_long c.args.image.now) c.requires
    ∙ heads_decide t _ _ c.args.numbers.now flat ix _ (c.children_ok.ensures.1 ok)
    (parents_say t _ _ c.args.numbers.now flat ix (sym c.children_ok.ensures.0 ∙ ok))
