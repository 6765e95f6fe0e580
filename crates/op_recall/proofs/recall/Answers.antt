use native.Mathlib.Omega.{arith}
use mathlib.Core.Path.{◌≡◌, refl, sym, ap, ◌∙◌}
use Rattle.tables.specs.declared.Name.{Name}
use Rattle.image.specs.Image.{decode, is_image}
use Rattle.machine.specs.Refusal.{said}
use Rattle.machine.specs.Recall.{recall_refusal, recall_tables}
use Rattle.op_form.proofs.Laws.{sender_possible}
use Rattle.op_outcome.proofs.Laws.{leaves, stays, entries_kept_lem}
use Rattle.op_recall.proofs.Steps.{recalled_near, recalled_far, refused, recalled}
use Rattle.op_recall.proofs.recall.Goals as goal
use Rattle.op_recall.proofs.recall.Goals.{then-target-r, else-target-r}

pub returns-in-Err : goal.returns-in-Err
returns-in-Err c =
    λ store sheet. stays c.requires.0 c.refused.ensures
    (refused (decode c.args.image.now) store sheet c.args.r c.requires.1.1 c.in-Err.refusal (sym (ap said c.in-Err.is) ∙ c.allowed-d.ensures.result))

pub drop_followed-requires : goal.drop_followed-requires
drop_followed-requires c =
    let low = (sender_possible c.args.r c.requires.1.1.early).pad in
    let near = ap (λ (n : Name). n.pad) c.asked_name-own.ensures ∙ sym c.if-target-r.true in
    (c.requires.0, (c.requires.1.0.linked, ((omega (arith, low, c.if-target-r.true), near), c.requires.1.0.entries)))

pub drop_one-requires : goal.drop_one-requires
drop_one-requires c =
    let p = sender_possible c.args.r c.requires.1.1.early in
    let own = c.asked_name-own.ensures in
    (c.requires.0, (omega (arith, p.pad, ap (λ (n : Name). n.pad) own), omega (arith, p.program, ap (λ (n : Name). n.program) own)))

pub drop_below-requires : goal.drop_below-requires
drop_below-requires c =
    (c.drop_one.ensures.is, entries_kept_lem _ (decode c.args.image.now) _ c.drop_one.ensures.tables c.requires.1.0.entries)

pub returns : goal.returns
returns c =
    let t = decode c.args.image.now in
    let r = c.args.r in
    let d = c.allowed-d.ensures in
    let decided : 0 ≡ recall_refusal t r = sym (ap said c.in_default.is) ∙ d.result in
    elim c.if-target-r.branch [
      | then-target-r w ↦ λ store sheet.
          leaves {u = recall_tables t r}
          (record {
            is = ap is_image w.image-is ∙ w.drop_followed.ensures.is;
            tables = ap decode w.image-is ∙ w.drop_followed.ensures.tables
                ∙ recalled_near t r _ d.ticket w.if-target-r.true _ c.asked_name-own.ensures;
          })
          c.accepted.ensures (recalled t store sheet r c.requires.1.1 decided refl)
      | else-target-r w ↦ λ store sheet.
          leaves {u = recall_tables t r}
          (record {
            is = ap is_image w.image-is ∙ w.drop_below.ensures.is;
            tables = ap decode w.image-is ∙ w.drop_below.ensures.tables
                ∙ recalled_far t r _ d.ticket w.if-target-r.false _ c.asked_name-own.ensures _ w.drop_one.ensures.tables;
          })
          c.accepted.ensures (recalled t store sheet r c.requires.1.1 decided refl)
    ]
