use mathlib.Core.Path.{sym, ap, ◌∙◌}
use borrow.Author.Tests.{lt-ltb, le-ltb}
use Rattle.tables.specs.declared.Ticket.{Ticket}
use Rattle.image_numbers.specs.Numbers.{number_if}
use Rattle.text_notes.proofs.noted_number.Goals as goal

pub returns-then-notes-place-lt-NO_PLACE : goal.returns-then-notes-place-lt-NO_PLACE
unfolding number_if
returns-then-notes-place-lt-NO_PLACE c =
    let p = c.requires.1 in
    rw (sym (p.0.has c.args.place p.1) ∙ lt-ltb _ 256 c.if-notes-place-lt-NO_PLACE.true) (ap (λ (k : Ticket). k.number) c.ticket_at.ensures)

pub returns-else-notes-place-lt-NO_PLACE : goal.returns-else-notes-place-lt-NO_PLACE
unfolding number_if
returns-else-notes-place-lt-NO_PLACE c =
    let p = c.requires.1 in
    rw (sym (p.0.has c.args.place p.1) ∙ le-ltb _ 256 c.if-notes-place-lt-NO_PLACE.false)
