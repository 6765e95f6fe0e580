use native.Mathlib.Omega.{arith}
use mathlib.Core.Path.{◌∙◌}
use Rattle.best_fit.specs.BestFit.{best_fit}
use Rattle.machine.specs.Refusal.{is_spent}
use Rattle.machine.specs.Take.{take_refusal}
use Rattle.image.specs.Image.{decode}
use Rattle.image_read.proofs.Places.{entries_decoded}
use Rattle.op_check.proofs.Chains.{chain}
use Rattle.op_form.proofs.Laws.{sender_possible, take_fields}
use Rattle.op_take.proofs.Steps.{no_run, a_run}
use Rattle.op_take.proofs.allowed.Goals as goal

pub seat-p-requires : goal.seat-p-requires
seat-p-requires c = sender_possible c.args.r c.requires.early

pub best_fit-first-requires : goal.best_fit-first-requires
best_fit-first-requires c = let fields = take_fields c.args.r c.requires.early c.requires.number in (omega (arith, fields.count_low), omega (arith, fields.count_high))

pub returns-then-first-ge256 : goal.returns-then-first-ge256
unfolding take_refusal is_spent
returns-then-first-ge256 c =
    let run = c.best_fit-first.ensures ∙ (λ i. best_fit (entries_decoded c.args.image.now i) (c.from.ensures i)) in
    let none = no_run (decode c.args.image.now) c.args.r c.requires run c.if-first-ge256.true in
    record { result = grind (arith, chain, none); number = tt; first = tt }

pub returns : goal.returns
unfolding take_refusal is_spent
returns c =
    let run = c.best_fit-first.ensures ∙ (λ i. best_fit (entries_decoded c.args.image.now i) (c.from.ensures i)) in
    let there = a_run (decode c.args.image.now) c.args.r c.requires run c.if-first-ge256.false in
    record { result = grind (arith, chain, there); number = omega (arith, c.seat-p.ensures.last); first = run }
