use mathlib.Core.Path.{sym, ap, ◌∙◌}
use Rattle.tables.specs.declared.Ticket.{Ticket}
use Rattle.image_numbers.proofs.KindNumbers.{other_kind, this_kind}
use Rattle.image_numbers.proofs.kind_number.Goals as goal

pub returns-then-kind_at-kind : goal.returns-then-kind_at-kind
returns-then-kind_at-kind c =
    let p = c.requires in
    ap (λ (k : Ticket). k.number) c.ticket_at.ensures
    ∙ this_kind c.args.image.now c.args.place c.args.kind p.0 p.1.0 p.1.1
    (sym c.kind_at.ensures ∙ c.if-kind_at-kind.true)

pub returns-else-kind_at-kind : goal.returns-else-kind_at-kind
returns-else-kind_at-kind c =
    let p = c.requires in
    other_kind c.args.image.now c.args.place c.args.kind p.0 p.1.0 p.1.1 (λ e. c.if-kind_at-kind.false (c.kind_at.ensures ∙ e))
