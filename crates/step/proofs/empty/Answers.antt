-- Zeros are the image of empty tables.
use Rattle.step.proofs.Emptying.{not_emptied, tables_emptied, all_emptied}
use Rattle.step.proofs.empty.Goals as goal

pub returns-then-tables-ne-IMAGE : goal.returns-then-tables-ne-IMAGE
returns-then-tables-ne-IMAGE c = not_emptied c.args.tables.now c.args.store.now c.if-tables-ne-IMAGE.true

pub returns-then-store-ne-STORE : goal.returns-then-store-ne-STORE
returns-then-store-ne-STORE c =
    tables_emptied c.args.tables.now c.args.store.now c.if-tables-ne-IMAGE.false _ c.clear.ensures c.if-store-ne-STORE.true

pub returns : goal.returns
returns c =
    all_emptied c.args.tables.now c.args.store.now c.if-tables-ne-IMAGE.false _ c.clear.ensures
    c.if-store-ne-STORE.false _ c.clear-2.ensures
