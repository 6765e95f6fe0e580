use native.Mathlib.Omega.{arith}
use mathlib.Core.Path.{sym, ap, ◌∙◌}
use Rattle.tables.specs.declared.Ticket.{Ticket}
use Rattle.machine.specs.Refusal.{said}
use Rattle.machine.specs.State.{clear_sheets}
use Rattle.image.specs.Image.{decode}
use Rattle.op_outcome.proofs.Laws.{leaves, stays, entries_kept_lem}
use Rattle.op_give_back.proofs.Steps.{span_of_asked, head_of_asked, gave_back, refused, given_back}
use Rattle.op_give_back.proofs.give_back.Goals as goal

pub returns-in-Err : goal.returns-in-Err
returns-in-Err c =
    λ sheet. stays c.requires.0 c.refused.ensures
    (refused (decode c.args.image.now) c.args.store.now sheet c.args.r c.requires.1.1 c.in-Err.refusal (sym (ap said c.in-Err.is) ∙ c.allowed-d.ensures.result))

pub clear_sheets-requires : goal.clear_sheets-requires
clear_sheets-requires c =
    let d = c.allowed-d.ensures in
    let span = span_of_asked (decode c.args.image.now) c.args.r (sym (ap said c.in_default.is) ∙ d.result) c.requires.1.0 d.ticket in
    omega (arith, span)

pub drop_head-requires : goal.drop_head-requires
drop_head-requires c =
    let ready = c.requires.1.0 in
    let head = head_of_asked (decode c.args.image.now) c.args.r (sym (ap said c.in_default.is) ∙ c.allowed-d.ensures.result) c.asked_name-own.ensures in
    (c.requires.0, (ready.linked, (ready.heads, head)))

pub drop_below-requires : goal.drop_below-requires
drop_below-requires c =
    (c.drop_head.ensures.is, entries_kept_lem _ (decode c.args.image.now) _ c.drop_head.ensures.tables c.requires.1.0.entries)

pub returns : goal.returns
returns c =
    let t = decode c.args.image.now in
    let r = c.args.r in
    let d = c.allowed-d.ensures in
    let store = c.args.store.now in
    let cleared = c.clear_sheets.ensures ∙ (λ i. clear_sheets (c.from.ensures i) (c.from-2.ensures i) store) ∙ ap (λ (k : Ticket). clear_sheets k.first k.count store) (sym d.ticket) in
    λ sheet. leaves c.drop_below.ensures c.accepted.ensures
    (given_back t store sheet r c.requires.1.1 (sym (ap said c.in_default.is) ∙ d.result) (gave_back t r _ c.asked_name-own.ensures _ c.drop_head.ensures.tables) cleared)
