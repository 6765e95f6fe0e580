-- A key of 256 or more has no ticket, so no child.
use native.Mathlib.Omega.{arith}
use mathlib.Core.Path.{◌≡◌, sym, ap, ◌∙◌}
use mathlib.Core.Bool.{Bool, not, ◌&&◌}
use lib.ListN.{get_or, get_or-eq_default}
use borrow.Author.Tests.{le-leb}
use Rattle.tables.specs.declared.Ticket.{Ticket}
use Rattle.tables.specs.Names.{free}
use Rattle.tables.specs.Kinds.{is_child}
use Rattle.image_read.specs.Places.{tickets_in}
use Rattle.image_read.proofs.Places.{tickets_long}
use Rattle.order_recalls.proofs.may_name.Goals as goal

pub returns-then-key-ge256 : goal.returns-then-key-ge256
returns-then-key-ge256 c =
    let a = c.args in
    let none : get_or (tickets_in a.image.now) a.key free ≡ free = get_or-eq_default (tickets_in a.image.now) free (omega (arith, tickets_long a.image.now)) in
    le-leb 256 a.key c.if-key-ge256.true
    ∙ sym
    (ap (λ (b : Bool). b && not (is_child (get_or (tickets_in a.image.now) a.key free).kind)) (sym c.was_given.ensures ∙ c.if-was_given.true)
    ∙ ap (λ (k : Ticket). not (is_child k.kind)) none)
