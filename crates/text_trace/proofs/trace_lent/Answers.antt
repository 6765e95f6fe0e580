-- Each return is one case of the tests before it; the last one has written the whole trace.
use mathlib.Core.Path.{refl, sym, ◌∙◌}
use Rattle.lending.specs.Batch.{tables_ok}
use Rattle.lending.specs.Trace.{trace_buffers}
use Rattle.text_trace.proofs.LentTrace.{of_arrays, array_long, ready, other_tables, other_store, bad_tables, too_short, whole}
use Rattle.text_trace.proofs.trace_lent.Goals as goal

pub returns-in_default : goal.returns-in_default
returns-in_default c =
    let a = c.args in
    other_tables (trace_buffers a.tables.now a.store.now a.input.now a.output.now) c.in_default.ensures.cases

pub returns-in_default-as_mut_array : goal.returns-in_default-as_mut_array
returns-in_default-as_mut_array c =
    let a = c.args in
    let image = c.in-Some.image.now in
    of_arrays c.in-Some.ensures.cases.same refl
    (other_store (trace_buffers image a.store.now a.input.now a.output.now) c.in_default-as_mut_array.ensures.cases)

pub returns-then-not-image_in_order : goal.returns-then-not-image_in_order
unfolding tables_ok
returns-then-not-image_in_order c =
    let a = c.args in
    let image = c.in-Some.image.now in
    let sheets = c.in-Some-as_mut_array.sheets.now in
    of_arrays c.in-Some.ensures.cases.same c.in-Some-as_mut_array.ensures.cases.same
    (bad_tables (trace_buffers image sheets a.input.now a.output.now) (array_long c.in-Some.ensures.cases)
    (array_long c.in-Some-as_mut_array.ensures.cases)
    (sym c.image_in_order.ensures ∙ c.if-not-image_in_order.true))

pub fits-requires : goal.fits-requires
unfolding tables_ok
fits-requires c = ready (sym c.image_in_order.ensures ∙ c.if-not-image_in_order.false) c.in-Some-as_mut_array.ensures.cases

pub returns-then-not-fits : goal.returns-then-not-fits
unfolding tables_ok
returns-then-not-fits c =
    let a = c.args in
    let image = c.in-Some.image.now in
    let sheets = c.in-Some-as_mut_array.sheets.now in
    of_arrays c.in-Some.ensures.cases.same c.in-Some-as_mut_array.ensures.cases.same
    (too_short (trace_buffers image sheets a.input.now a.output.now) (array_long c.in-Some.ensures.cases)
    (array_long c.in-Some-as_mut_array.ensures.cases)
    (sym c.image_in_order.ensures ∙ c.if-not-image_in_order.false) (sym c.fits.ensures ∙ c.if-not-fits.true))

pub put_trace-requires : goal.put_trace-requires
unfolding tables_ok
put_trace-requires c = ready (sym c.image_in_order.ensures ∙ c.if-not-image_in_order.false) c.in-Some-as_mut_array.ensures.cases

pub returns : goal.returns
unfolding tables_ok
returns c =
    let a = c.args in
    let put = c.put_trace.ensures in
    let image = c.in-Some.image.now in
    let sheets = c.in-Some-as_mut_array.sheets.now in
    of_arrays c.in-Some.ensures.cases.same c.in-Some-as_mut_array.ensures.cases.same
    (whole (trace_buffers image sheets a.input.now a.output.now) (array_long c.in-Some.ensures.cases)
    (array_long c.in-Some-as_mut_array.ensures.cases)
    (sym c.image_in_order.ensures ∙ c.if-not-image_in_order.false) (sym c.fits.ensures ∙ c.if-not-fits.false) put.appends put.leaves_dock)
