-- From zeros, which are the emptied dock: a trace that fits goes to the front of the output; another is refused.
use mathlib.Core.Path.{sym, ◌∙◌}
use Rattle.text.proofs.Appending.{write_tested, refuse_tested}
use Rattle.text_trace.proofs.WholeTrace.{zeros_ready, from_zeros}
use Rattle.text_trace.proofs.trace.Goals as goal

pub fits-requires : goal.fits-requires
fits-requires c = zeros_ready

pub put_trace-requires : goal.put_trace-requires
put_trace-requires c = zeros_ready

pub returns-then-not-fits : goal.returns-then-not-fits
returns-then-not-fits c = from_zeros c.args.input.now (refuse_tested _ _ (sym c.fits.ensures ∙ c.if-not-fits.true))

pub returns : goal.returns
returns c =
    from_zeros c.args.input.now
    (write_tested _ _ _ _ (sym c.fits.ensures ∙ c.if-not-fits.false) c.put_trace.ensures.appends)
