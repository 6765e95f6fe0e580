use Prim.Native.Nat.{ℕ}
use mathlib.Core.Path.{sym, ap, subst, ◌∙◌}
use mathlib.Core.List.{List}
use Rattle.machine.specs.State.{put_sheets}
use Rattle.machine.specs.Operation.{writing}
use Rattle.image.specs.Image.{decode}
use Rattle.op_form.proofs.Numbers.{op_write}
use Rattle.op_outcome.specs.Outcomes.{outcome_of, plainly}
use Rattle.op_outcome.proofs.Laws.{stays}
use Rattle.op_access.specs.Decides.{DecidesFor}
use Rattle.op_access.proofs.Steps.{may_be_refused, sheet_in_store, refused, done, own_write, after_write_lem}
use Rattle.op_access.proofs.write.Goals as goal

pub refuse-requires : goal.refuse-requires
refuse-requires c =
    let asks = c.requires.1 in
    let found = c.allowed-d.ensures.ticket in
    (c.requires.0, may_be_refused 2 (decode c.args.image.now) c.args.r asks.1.early asks.0 (subst (DecidesFor 2 (decode c.args.image.now) c.args.r) c.in-Err.is c.allowed-d.ensures.found) _ found _ c.into.ensures)

pub returns-in-Err : goal.returns-in-Err
returns-in-Err c =
    let asks = c.requires.1 in
    let found = c.allowed-d.ensures.ticket in
    let t = decode c.args.image.now in
    let r = c.args.r in
    refused 2 t r asks.1.early asks.0 (subst (DecidesFor 2 (decode c.args.image.now) c.args.r) c.in-Err.is c.allowed-d.ensures.found) _ found _ c.into.ensures writing (op_write r.op asks.1.number) (own_write t r) c.refuse.ensures

pub write_sheet-requires : goal.write_sheet-requires
write_sheet-requires c = let low = sheet_in_store 2 (decode c.args.image.now) c.args.r c.requires.1.1.early (subst (DecidesFor 2 (decode c.args.image.now) c.args.r) c.in-Ok.is c.allowed-d.ensures.found) in low

pub returns-in-Ok : goal.returns-in-Ok
returns-in-Ok c =
    let asks = c.requires.1.1 in
    let t = decode c.args.image.now in
    let r = c.args.r in
    let store = c.args.store.now in
    let sheet = c.args.sheet.now in
    let d = subst (DecidesFor 2 (decode c.args.image.now) c.args.r) c.in-Ok.is c.allowed-d.ensures.found in
    let copied = c.write_sheet.ensures ∙ ap (λ (at : ℕ). put_sheets at sheet store) d.sheet in
    stays c.requires.0 c.accepted.ensures
    (ap (λ (bytes : List ℕ). outcome_of (plainly 0) t bytes sheet) copied ∙ after_write_lem t r store sheet
    ∙ done 2 t r asks.early d writing (op_write r.op asks.number) (own_write t r) store sheet)
