use native.Mathlib.Omega.{arith}
use mathlib.Core.Path.{refl, ◌∙◌}
use Rattle.machine.specs.State.{clear_sheets}
use Rattle.image.specs.Image.{decode}
use Rattle.op_form.proofs.Laws.{sender_possible}
use Rattle.op_outcome.proofs.Laws.{leaves, stays}
use Rattle.op_take.proofs.Steps.{run_in_store, served_not, taken}
use Rattle.op_take.proofs.take.Goals as goal

pub returns-in-Err : goal.returns-in-Err
returns-in-Err c =
    λ sheet. stays c.requires.0 c.refused.ensures
    (served_not (decode c.args.image.now) c.args.r c.args.store.now c.requires.1 sheet c.in-Err.refusal c.in-Err.ensures.result)

pub clear_sheets-requires : goal.clear_sheets-requires
clear_sheets-requires c = let d = c.in-Ok.ensures in let fits = run_in_store (decode c.args.image.now) c.args.r c.requires.1 d.result in omega (arith, fits, d.first)

pub give-requires : goal.give-requires
give-requires c =
    (c.requires.0, sender_possible c.args.r c.requires.1.early)

pub returns : goal.returns
returns c =
    let d = c.in-Ok.ensures in
    let cleared = c.clear_sheets.ensures ∙ (λ i. clear_sheets (c.from.ensures i) (c.from-2.ensures i) c.args.store.now) in
    λ sheet. leaves (record { is = c.make.ensures.is; tables = refl }) c.accepted.ensures
    (taken (decode c.args.image.now) c.args.r c.args.store.now c.requires.1 sheet d.result
    d.number d.first c.head-k.ensures c.none.ensures c.entry-e.ensures c.give.ensures.tables
    c.make.ensures.tables cleared)
