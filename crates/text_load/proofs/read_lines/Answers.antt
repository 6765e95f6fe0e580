-- Before each line `Going` holds of the lines so far: the next one has another form, may not follow, or is put and goes on.
use mathlib.Core.Path.{sym, ◌∙◌}
use native.Mathlib.Omega.{arith}
use borrow.Author.Tests.{ltb-true}
use Rattle.text.proofs.NextLine.{line_inside}
use Rattle.text_load.proofs.Lines.{row_in_form, not_above, no_room, may_follow_lem, begins, other_form, not_next, goes_on, ends}
use Rattle.text_load.proofs.read_lines.Goals as goal

pub loop-from-init : goal.loop-from-init
loop-from-init c = begins c.args.text.now c.args.start c.args.image.now c.requires.1 c.requires.0

pub overflow_add-end : goal.overflow_add-end
overflow_add-end c = omega (arith, line_inside c.args.text.now c.loop-from.from _ c.find.ensures c.loop-from-test.true)

pub slice_bounds-read_row-end : goal.slice_bounds-read_row-end
slice_bounds-read_row-end c = omega (arith, line_inside c.args.text.now c.loop-from.from _ c.find.ensures c.loop-from-test.true)

pub returns-in_default : goal.returns-in_default
returns-in_default c =
    other_form c.args.text.now c.args.start _ _ _ _ c.loop-from.invariant _ c.find.ensures c.loop-from-test.true c.in_default.ensures _

pub returns-then-key-next : goal.returns-then-key-next
returns-then-key-next c =
    let g = c.loop-from.invariant in
    not_next c.args.text.now c.args.start _ _ _ _ g _ c.find.ensures c.loop-from-test.true _ c.in-Some.ensures
    (not_above g.before _ (omega (arith, c.key-key.ensures, g.key_next, c.if-key-next.true))) _

pub returns-then-not-has_room : goal.returns-then-not-has_room
returns-then-not-has_room c =
    let g = c.loop-from.invariant in
    not_next c.args.text.now c.args.start _ _ _ _ g _ c.find.ensures c.loop-from-test.true _ c.in-Some.ensures
    (no_room g.before _ g.ok (row_in_form _ _ c.in-Some.ensures) _ g.tallied (sym c.has_room.ensures ∙ c.if-not-has_room.true)) _

pub put_row-requires : goal.put_row-requires
put_row-requires c =
    let g = c.loop-from.invariant in
    (g.filled.is, (row_in_form _ _ c.in-Some.ensures, ltb-true _ _ (sym c.has_room.ensures ∙ c.if-not-has_room.false)))

pub loop-from-preserved : goal.loop-from-preserved
loop-from-preserved c =
    let g = c.loop-from.invariant in
    let m = may_follow_lem g.before _ g.ok (row_in_form _ _ c.in-Some.ensures) _ g.tallied (omega (arith, c.key-key.ensures, g.key_next, c.if-key-next.false))
    (sym c.has_room.ensures ∙ c.if-not-has_room.false) in
    let put = c.put_row.ensures in
    goes_on c.args.text.now c.args.start _ _ _ _ g _ c.find.ensures c.loop-from-test.true _ c.in-Some.ensures m _ _ _ c.key-key.ensures
    (put.tallied g.before g.tallied) (put.filled g.before g.tallied g.filled)

pub returns : goal.returns
returns c =
    ends c.args.text.now c.args.start _ _ _ _ c.loop-from.invariant (omega (arith, c.loop-from-test.false)) _ c.all_programs.ensures
