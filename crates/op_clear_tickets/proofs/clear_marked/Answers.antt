-- The first i places of the pad have been cleared of what is marked.
use Prim.Native.Nat.{ℕ, ◌+◌, ◌-◌, ◌*◌, ◌<◌}
use native.Mathlib.Omega.{arith}
use mathlib.Core.Path.{◌≡◌, refl, sym, ap, ◌∙◌}
use mathlib.Core.Bool.{Bool}
use Rattle.tables.specs.declared.Ticket.{Ticket}
use Rattle.op_clear_tickets.specs.Cleared.{is_marked}
use Rattle.op_clear_tickets.proofs.Laws.{stood, cleared_none, stands_yet, cleared_gone, cleared_kept}
use Rattle.op_clear_tickets.proofs.clear_marked.Goals as goal
use Rattle.op_clear_tickets.proofs.clear_marked.Goals.{then-is_marked, else-is_marked}

pub loop-i-init : goal.loop-i-init
loop-i-init c = cleared_none (64 * c.args.pad) (λ p. is_marked c.args.marks.now (p - 64 * c.args.pad)) c.args.image.now c.requires.0

pub loop-i-preserved : goal.loop-i-preserved
loop-i-preserved c =
    let a = c.args in
    let l = c.loop-i in
    let from : ℕ = 64 * a.pad in
    let low : from + l.i < 256 = omega (arith, c.requires.1, c.loop-i-test.true) in
    let gone : ℕ → Ticket → Bool = λ p. is_marked a.marks.now (p - from) in
    let still = stands_yet from gone a.image.now l.i l.image l.invariant low in
    let at : l.i ≡ from + l.i - from = omega arith in
    let test : c.is_marked.result ≡ gone (from + l.i) (stood from gone a.image.now (from + l.i))
    = c.is_marked.ensures ∙ ap (is_marked a.marks.now l.i) still
    ∙ ap (λ (j : ℕ). is_marked a.marks.now j (stood from gone a.image.now (from + l.i))) at in
    elim c.if-is_marked.branch [
      | then-is_marked w ↦
          rw w.image-is
          (cleared_gone from gone a.image.now l.i l.image l.invariant low _ refl _ _ w.free.ensures w.put_ticket.ensures (sym test ∙ w.if-is_marked.true))
      | else-is_marked w ↦
          rw w.image-is
          (cleared_kept from gone a.image.now l.i l.image l.invariant low (sym test ∙ w.if-is_marked.false))
    ]
