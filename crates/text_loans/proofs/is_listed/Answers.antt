use mathlib.Core.Path.{sym, ap, ◌∙◌}
use borrow.Author.Tests.{eq-eqb}
use Rattle.lists.specs.Lists.{first_index}
use Rattle.tables.specs.Lookup.{is_named}
use Rattle.image_read.specs.Places.{entries_in}
use Rattle.tables.specs.declared.{Name.Name, Ticket.Ticket}
use Rattle.text_loans.proofs.Places.{near_target, far_target}
use Rattle.text_loans.proofs.is_listed.Goals as goal

pub returns-then-from-place : goal.returns-then-from-place
returns-then-from-place c =
    let target = ap (λ (k : Ticket). k.other.pad) c.ticket_at.ensures in
    let near = c.if-from-place.true in
    eq-eqb _ _ near ∙ near_target c.args.image.now c.requires.0.order c.args.place c.requires.1 (sym target ∙ sym c.from.ensures ∙ near)

pub returns-else-from-place : goal.returns-else-from-place
returns-else-from-place c =
    let pad = ap (λ (k : Ticket). k.other.pad) c.ticket_at.ensures in
    let target = ap (λ (k : Ticket). k.other) c.ticket_at.ensures in
    far_target c.args.image.now c.requires.0.order c.args.place c.requires.1 (λ near. c.if-from-place.false (c.from.ensures ∙ pad ∙ near))
    c.entry_place.result (c.entry_place.ensures ∙ ap (λ (n : Name). first_index (is_named n) (entries_in c.args.image.now)) target)
