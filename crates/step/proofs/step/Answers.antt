-- 13 and 14 leave everything as it is; past them the step is serving.
use mathlib.Core.Path.{sym}
use Rattle.std.proofs.Common.{rules}
use Rattle.lending.proofs.Refusals.{tables_image, tables_order, not_refused}
use Rattle.step.proofs.Stepping.{as_refused, as_served}
use Rattle.step.proofs.step.Goals as goal

pub returns-in-Err : goal.returns-in-Err
returns-in-Err c =
    let a = c.args in
    as_refused a.tables.now a.store.now a.sheet.now a.r c.in-Err.refusal c.in-Err.ensures c.refused.ensures

pub request-requires : goal.request-requires
request-requires c =
    let a = c.args in
    let whole = not_refused a.tables.now _ _ (sym c.in_default.ensures) in
    record {
      is = tables_image a.tables.now whole.tables;
      order = tables_order a.tables.now whole.tables;
      lengths = record { store = whole.store_long; sheet = whole.sheet_long };
    }

pub returns : goal.returns
returns c =
    let a = c.args in
    as_served a.tables.now a.store.now a.sheet.now a.r (λ i. search rules) (sym c.in_default.ensures) c.request.ensures
