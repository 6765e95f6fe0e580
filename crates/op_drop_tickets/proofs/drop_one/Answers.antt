-- The first i places of the program have been cleared of the name's ticket.
use Prim.Native.Nat.{ℕ, ◌+◌, ◌<◌}
use native.Mathlib.Omega.{arith}
use mathlib.Core.Path.{◌≡◌, refl, sym, ap, ◌∙◌}
use mathlib.Core.Bool.{Bool}
use Rattle.tables.specs.declared.Ticket.{Ticket}
use Rattle.tables.specs.Names.{eq_name}
use Rattle.tables.specs.Lookup.{has_number}
use Rattle.image.specs.Image.{decode}
use Rattle.image_places.specs.Places.{placed, start_of}
use Rattle.op_clear_tickets.specs.Cleared.{Cleared}
use Rattle.op_clear_tickets.proofs.Laws.{cleared_none, stands_yet, cleared_gone, cleared_kept, holds_dropped}
use Rattle.op_drop_tickets.proofs.OneTicket.{by_name}
use Rattle.op_drop_tickets.proofs.drop_one.Goals as goal
use Rattle.op_drop_tickets.proofs.drop_one.Goals.{then-has_number, else-has_number}

pub loop-i-init : goal.loop-i-init
loop-i-init c = cleared_none (start_of c.args.n) (λ p. has_number c.args.n.number) c.args.image.now c.requires.0

pub loop-i-preserved : goal.loop-i-preserved
loop-i-preserved c =
    let a = c.args in
    let l = c.loop-i in
    let from : ℕ = start_of a.n in
    let low : from + l.i < 256 = omega (arith, c.requires.1.0, c.requires.1.1, c.loop-i-test.true) in
    let gone : ℕ → Ticket → Bool = λ p. has_number a.n.number in
    let k = c.has_number.ensures ∙ ap (has_number a.n.number) (c.ticket_at.ensures ∙ stands_yet from gone a.image.now l.i l.image l.invariant low) in
    elim c.if-has_number.branch [
      | then-has_number w ↦
          rw w.image-is
          (cleared_gone from gone a.image.now l.i l.image l.invariant low _ refl _ _ w.free.ensures w.put_ticket.ensures (sym k ∙ w.if-has_number.true))
      | else-has_number w ↦ rw w.image-is (cleared_kept from gone a.image.now l.i l.image l.invariant low (sym k ∙ w.if-has_number.false))
    ]

pub returns : goal.returns
returns c =
    let a = c.args in
    let end : c.loop-i.i ≡ 8 = omega arith in
    let all : Cleared (start_of a.n) 8 (λ p. has_number a.n.number) a.image.now c.loop-i.image = rw end at c.loop-i.invariant in
    holds_dropped (start_of a.n) (λ p. has_number a.n.number) a.image.now 8 c.loop-i.image all (λ m. eq_name m a.n)
    (λ p h. by_name a.n c.requires.1.0 c.requires.1.1 p (placed (decode a.image.now) p))
