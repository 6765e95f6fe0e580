use Prim.Native.Nat.{◌/◌}
use mathlib.Core.Path.{ap, ◌∙◌}
use Rattle.tables.specs.declared.Ticket.{Ticket}
use Rattle.tables.specs.Chains.{is_recall_of}
use Rattle.image_read.specs.Places.{tickets_in}
use Rattle.image_numbers.specs.Numbers.{numbers_in}
use Rattle.text_loans.proofs.loan_numbers.Goals as goal

pub returns : goal.returns
returns c =
    let a = c.args in
    c.recall_numbers.ensures
    ∙ ap (λ (k : Ticket). numbers_in (is_recall_of k.number) (tickets_in a.image.now) (a.place / 8)) c.ticket_at-k.ensures
