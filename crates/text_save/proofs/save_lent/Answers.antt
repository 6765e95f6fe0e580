-- Each return is one case of the tests before it; the last one has written the whole text.
use mathlib.Core.Path.{sym, ◌∙◌}
use Rattle.lending.specs.Saved.{save_buffers}
use Rattle.text_save.proofs.LentText.{other_tables, bad_tables, ordered, too_short, whole}
use Rattle.text_save.proofs.save_lent.Goals as goal

pub returns-in_default : goal.returns-in_default
returns-in_default c = other_tables (save_buffers c.args.tables.now c.args.output.now) c.in_default.ensures.cases

pub returns-then-not-image_in_order : goal.returns-then-not-image_in_order
returns-then-not-image_in_order c =
    bad_tables (save_buffers c.args.tables.now c.args.output.now) c.in-Some.ensures.cases c.image_in_order.ensures c.if-not-image_in_order.true

pub fits-requires : goal.fits-requires
fits-requires c =
    ordered (save_buffers c.args.tables.now c.args.output.now) c.in-Some.ensures.cases c.image_in_order.ensures c.if-not-image_in_order.false

pub returns-then-not-fits : goal.returns-then-not-fits
returns-then-not-fits c =
    too_short (save_buffers c.args.tables.now c.args.output.now) c.in-Some.ensures.cases c.image_in_order.ensures c.if-not-image_in_order.false
    (sym c.fits.ensures ∙ c.if-not-fits.true)

pub put_saved-requires : goal.put_saved-requires
put_saved-requires c =
    ordered (save_buffers c.args.tables.now c.args.output.now) c.in-Some.ensures.cases c.image_in_order.ensures c.if-not-image_in_order.false

pub returns : goal.returns
returns c =
    whole (save_buffers c.args.tables.now c.args.output.now) c.in-Some.ensures.cases c.image_in_order.ensures c.if-not-image_in_order.false
    (sym c.fits.ensures ∙ c.if-not-fits.false) _ _ c.put_saved.ensures
