-- The lengths of request and answer, then 13 and 14, then the request is served and its answer written.
use mathlib.Core.Path.{sym}
use Rattle.std.proofs.Common.{rules}
use Rattle.lending.specs.Batch.{buffers_of}
use Rattle.lending.proofs.Refusals.{tables_image, tables_order, not_refused}
use Rattle.dock.proofs.OneRequest.{other_request, other_answer, before_it, served}
use Rattle.dock.proofs.dock_step.Goals as goal
use Rattle.dock.proofs.dock_step.Goals.{then-request-ne-REQUEST-via-then-request-ne-REQUEST, then-request-ne-REQUEST-via-else-request-ne-REQUEST+then-answer-ne-ANSWER}

pub returns-then-request-ne-REQUEST : goal.returns-then-request-ne-REQUEST
returns-then-request-ne-REQUEST c =
    let a = c.args in
    let b = buffers_of a.tables.now a.store.now a.sheet.now a.request.now a.answer.now in
    elim c.then-request-ne-REQUEST.branch [
      | then-request-ne-REQUEST-via-then-request-ne-REQUEST w ↦ other_request b c.into.ensures w.if-request-ne-REQUEST.true
      | then-request-ne-REQUEST-via-else-request-ne-REQUEST+then-answer-ne-ANSWER w ↦ other_answer b c.into.ensures w.if-answer-ne-ANSWER.true
    ]

pub returns-in-Err : goal.returns-in-Err
returns-in-Err c =
    let a = c.args in
    before_it (buffers_of a.tables.now a.store.now a.sheet.now a.request.now a.answer.now) c.if-request-ne-REQUEST.false c.if-answer-ne-ANSWER.false
    c.in-Err.refusal c.in-Err.ensures c.into-in-Err.ensures

pub request-a-requires : goal.request-a-requires
request-a-requires c =
    let a = c.args in
    let whole = not_refused a.tables.now _ _ (sym c.in_default.ensures) in
    record {
      is = tables_image a.tables.now whole.tables;
      order = tables_order a.tables.now whole.tables;
      lengths = record { store = whole.store_long; sheet = whole.sheet_long };
    }

pub returns : goal.returns
returns c =
    let a = c.args in
    served (buffers_of a.tables.now a.store.now a.sheet.now a.request.now a.answer.now) c.if-request-ne-REQUEST.false c.if-answer-ne-ANSWER.false
    c.in_default.ensures _ c.request_in.ensures c.request-a.result _ _ _ c.request-a.ensures (λ i. search rules) c.put_answer.ensures
