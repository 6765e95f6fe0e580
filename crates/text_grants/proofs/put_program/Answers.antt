-- The taken grants with a number up to the walk's are printed, and their sheets added.
use native.Mathlib.Omega.{arith}
use mathlib.Core.Path.{◌∙◌}
use Rattle.text_grants.proofs.Grants.{going_none, going_end, going_sheets, going_fits, going_more}
use Rattle.text_grants.proofs.put_program.Goals as goal

pub loop-i-init : goal.loop-i-init
loop-i-init c =
    let a = c.args in
    going_none a.image.now a.marks.now a.out.now a.before a.program _ _ c.requires.0.scratch c.taken_numbers-numbers.ensures
    (c.into_iter-i-iterator.ensures.into_iter_gives ∙ c.by_number-i-items.ensures)

pub overflow_add-sheets : goal.overflow_add-sheets
overflow_add-sheets c =
    let fits = going_sheets _ _ _ _ _ _ _ _ _ _ c.loop-i.invariant c.requires.0 c.requires.1.0 c.requires.1.1 _ _ c.in-Some.ensures.steps in
    omega (arith, c.count_at-sheets.ensures, fits)

pub put_ticket-end-requires : goal.put_ticket-end-requires
put_ticket-end-requires c =
    going_fits _ _ _ _ _ _ _ _ _ _ c.loop-i.invariant c.requires.0 c.requires.1.0 c.requires.1.1 _ _ c.in-Some.ensures.steps

pub loop-i-preserved : goal.loop-i-preserved
loop-i-preserved c =
    let p = c.put_ticket-end in
    going_more _ _ _ _ _ _ _ _ _ _ c.loop-i.invariant c.requires.0 c.requires.1.0 c.requires.1.1 _ _ c.in-Some.ensures.steps
    _ c.count_at-sheets.ensures _ _ _ p.array_long p.auto.out p.ensures

pub returns : goal.returns
returns c = going_end _ _ _ _ _ _ _ _ _ _ c.loop-i.invariant c.requires.0 c.requires.1.0 c.requires.1.1 c.in-None.ensures.steps.0
