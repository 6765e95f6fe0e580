-- Each return is the batch's answer to the tests that led to it; the last one has served all requests.
use mathlib.Core.Path.{◌≡◌, sym, ap, ◌∙◌}
use mathlib.Core.Bool.{true, not}
use Rattle.lending.specs.Batch.{buffers_fit, buffers_of}
use Rattle.batch.proofs.Refusals.{whole, leaves_13, leaves_14, leaves_0, tables_bad, tables_ok_lem, is_image_lem, is_in_order}
use Rattle.batch.proofs.serve.Goals as goal

pub returns-then-not-lengths_ok : goal.returns-then-not-lengths_ok
returns-then-not-lengths_ok c =
    let a = c.args in
    let b = buffers_of a.tables.now a.store.now a.sheets.now a.requests.now a.answers.now in
    leaves_13 b (sym c.lengths_ok.ensures ∙ c.if-not-lengths_ok.true)

pub returns-then-not-in_order : goal.returns-then-not-in_order
returns-then-not-in_order c =
    let a = c.args in
    let b = buffers_of a.tables.now a.store.now a.sheets.now a.requests.now a.answers.now in
    let fits : buffers_fit b ≡ true = sym c.lengths_ok.ensures ∙ c.if-not-lengths_ok.false in
    leaves_14 b fits (tables_bad a.tables.now c.in_order.ensures (ap not c.if-not-in_order.true))

pub serve_all-requires : goal.serve_all-requires
serve_all-requires c =
    let a = c.args in
    let b = buffers_of a.tables.now a.store.now a.sheets.now a.requests.now a.answers.now in
    let fits : buffers_fit b ≡ true = sym c.lengths_ok.ensures ∙ c.if-not-lengths_ok.false in (
      is_image_lem a.tables.now c.in_order.ensures (ap not c.if-not-in_order.false),
      (whole b fits, is_in_order a.tables.now c.in_order.ensures (ap not c.if-not-in_order.false)),
    )

pub returns : goal.returns
returns c =
    let a = c.args in
    let b = buffers_of a.tables.now a.store.now a.sheets.now a.requests.now a.answers.now in
    let fits : buffers_fit b ≡ true = sym c.lengths_ok.ensures ∙ c.if-not-lengths_ok.false in
    leaves_0 b fits (tables_ok_lem a.tables.now c.in_order.ensures (ap not c.if-not-in_order.false)) _ _ _ _ c.serve_all.ensures
