-- The places before i have passed: `Passed` says what is known then.
use native.Mathlib.Omega.{arith}
use mathlib.Core.Path.{◌≡◌, sym, ap, ◌∙◌}
use mathlib.Core.Bool.{Bool, ◌&&◌}
use Rattle.lists.proofs.Tests.{and_false}
use Rattle.tables.specs.Order.{t1, t2, t4}
use Rattle.image.specs.Image.{kinds_ok}
use Rattle.order_programs.proofs.Passing.{passed_none, bad_kind, passed_free, bad_ticket, passed_live, all_pass, all_indexed}
use Rattle.order_programs.proofs.programs_ok.Goals as goal
use Rattle.order_programs.proofs.programs_ok.Goals.{then-said-ne0+else-not-ticket_ok, else-said-ne0}

pub loop-i-init : goal.loop-i-init
loop-i-init c = passed_none _ _ _ _ _ c.requires (c.told-taken, (c.told-children, c.told-recalls))

pub returns-then-said-gt4 : goal.returns-then-said-gt4
returns-then-said-gt4 c =
    let bad = bad_kind _ _ _ _ _ _ _ _ _ c.loop-i.invariant c.loop-i-test.true _ c.kind_at-said.ensures (omega arith) in
    (λ t z flat. sym (ap (λ (b : Bool). b && (t1 t && t2 t && t4 t)) bad), tt)

pub returns-then-not-ticket_ok : goal.returns-then-not-ticket_ok
returns-then-not-ticket_ok c =
    let image = c.args.image.now in
    let bad = bad_ticket image _ _ _ _ _ _ _ _ c.loop-i.invariant c.loop-i-test.true _ c.kind_at-said.ensures (omega arith)
    c.if-said-ne0.true _ c.ticket_at-k.ensures (sym c.ticket_ok.ensures ∙ c.if-not-ticket_ok.true) in
    (λ t z flat. sym (ap (λ (b : Bool). kinds_ok image && b) (bad t z flat) ∙ and_false (kinds_ok image)), tt)

pub loop-i-preserved : goal.loop-i-preserved
loop-i-preserved c =
    elim c.if-said-ne0.branch [
      | then-said-ne0+else-not-ticket_ok w ↦
          rw (w.numbers-is, w.taken-is, w.children-is, w.recalls-is, w.listed-is)
          (passed_live _ _ _ _ _ _ _ _ _ c.loop-i.invariant c.loop-i-test.true _ c.kind_at-said.ensures (omega arith)
          w.if-said-ne0.true _ w.ticket_at-k.ensures (sym w.ticket_ok.ensures ∙ w.if-not-ticket_ok.false) _ _ _
          w.is_taken.ensures w.is_child.ensures w.is_recall.ensures _ _ _ w.from.ensures w.from-then-said-ne0.ensures
          w.from-then-said-ne0-2.ensures)
      | else-said-ne0 w ↦
          rw (w.numbers-is, w.taken-is, w.children-is, w.recalls-is, w.listed-is)
          (passed_free _ _ _ _ _ _ _ _ _ c.loop-i.invariant c.loop-i-test.true _ c.kind_at-said.ensures (omega arith) w.if-said-ne0.false)
    ]

pub returns : goal.returns
returns c =
    let end : c.loop-i.i ≡ 256 = omega arith in
    (λ t z flat. sym (all_pass _ _ _ _ _ _ _ _ _ c.loop-i.invariant end t z flat), all_indexed _ _ _ _ _ _ _ _ _ c.loop-i.invariant end)
