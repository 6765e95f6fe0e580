-- Each return is one case of the tests before it; the last one has written the whole report.
use mathlib.Core.Path.{sym, ◌∙◌}
use Rattle.lending.specs.Report.{report_buffers}
use Rattle.text_report.proofs.LentReport.{other_tables, bad_tables, ordered, other_scratch, cleared, too_short, whole}
use Rattle.text_report.proofs.report_lent.Goals as goal

pub returns-in_default : goal.returns-in_default
returns-in_default c =
    let b = report_buffers c.args.tables.now c.args.scratch.now c.args.output.now in
    other_tables b c.clear.ensures c.in_default.ensures.cases

pub returns-then-not-image_in_order : goal.returns-then-not-image_in_order
returns-then-not-image_in_order c =
    let b = report_buffers c.args.tables.now c.args.scratch.now c.args.output.now in
    bad_tables b c.clear.ensures c.in-Some.ensures.cases c.image_in_order.ensures c.if-not-image_in_order.true

pub returns-in_default-as_mut_array : goal.returns-in_default-as_mut_array
returns-in_default-as_mut_array c =
    let b = report_buffers c.args.tables.now c.args.scratch.now c.args.output.now in
    other_scratch b c.clear.ensures c.in-Some.ensures.cases c.image_in_order.ensures c.if-not-image_in_order.false
    c.in_default-as_mut_array.ensures.cases

pub fits-requires : goal.fits-requires
fits-requires c =
    let b = report_buffers c.args.tables.now c.args.scratch.now c.args.output.now in
    let clear = c.clear.ensures in
    let good = c.if-not-image_in_order.false in (
      ordered b clear c.in-Some.ensures.cases c.image_in_order.ensures good,
      cleared b clear c.in-Some.ensures.cases c.image_in_order.ensures good c.in-Some-as_mut_array.ensures.cases,
    )

pub returns-then-not-fits : goal.returns-then-not-fits
returns-then-not-fits c =
    let b = report_buffers c.args.tables.now c.args.scratch.now c.args.output.now in
    too_short b c.clear.ensures c.in-Some.ensures.cases c.image_in_order.ensures c.if-not-image_in_order.false
    c.in-Some-as_mut_array.ensures.cases c.fits.ensures.marks_after (sym c.fits.ensures.value ∙ c.if-not-fits.true)

pub put_and_clear-requires : goal.put_and_clear-requires
put_and_clear-requires c =
    let b = report_buffers c.args.tables.now c.args.scratch.now c.args.output.now in (
      ordered b c.clear.ensures c.in-Some.ensures.cases c.image_in_order.ensures c.if-not-image_in_order.false,
      c.fits.ensures.marks_after,
    )

pub returns : goal.returns
returns c =
    let b = report_buffers c.args.tables.now c.args.scratch.now c.args.output.now in
    let put = c.put_and_clear.ensures in
    whole b c.clear.ensures c.in-Some.ensures.cases c.image_in_order.ensures c.if-not-image_in_order.false
    c.in-Some-as_mut_array.ensures.cases put.marks_after (sym c.fits.ensures.value ∙ c.if-not-fits.false) _ _ put.appends
