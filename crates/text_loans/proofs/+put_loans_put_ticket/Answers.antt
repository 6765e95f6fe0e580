-- The two call each other: the measure is twice the places that are not marked, and one more in front of the loans.
use Prim.Native.Nat.{ℕ, ◌<◌}
use native.Mathlib.Omega.{arith}
use mathlib.Core.Path.{sym, ap, ◌∙◌}
use Rattle.tables.specs.Lookup.{place_of}
use Rattle.image.specs.Image.{decode}
use Rattle.text_marks.specs.Marks.{marked_in, with_mark, unmarked}
use Rattle.text_loans.specs.Walk.{name_in}
use Rattle.text_loans.proofs.Steps.{already, line_and_loans}
use Rattle.text_loans.proofs.Going.{going_none, going_fewer, going_end, going_past}
use Rattle.text_loans.proofs.Going.{going_lending, going_fits, going_more, less, line_fits, loans_fit}
use Rattle.text_loans.proofs.+put_loans_put_ticket.Goals as goal

pub put_loans-loop-i-init : goal.put_loans-loop-i-init
put_loans-loop-i-init t c =
    let a = c.args in
    going_none a.image.now a.marks.now a.out.now a.at a.depth a.place _ _ c.requires.scratch c.loan_numbers-numbers.ensures
    (c.into_iter-i-iterator.ensures.into_iter_gives ∙ c.by_number-i-items.ensures)

pub put_loans-loan_place-requires : goal.put_loans-loan_place-requires
put_loans-loan_place-requires t c =
    (c.requires.tables, going_lending _ _ _ _ _ _ _ _ _ _ c.loop-i.invariant c.requires _ _ c.in-Some.ensures.steps)

pub put_loans-put_ticket-total-requires : goal.put_loans-put_ticket-total-requires
put_loans-put_ticket-total-requires t c =
    let g = c.loop-i.invariant in
    let fewer = going_fewer _ _ _ _ _ _ _ _ _ _ g c.requires in
    (omega (arith, fewer), going_fits _ _ _ _ _ _ _ _ _ _ g c.requires _ _ c.in-Some.ensures.steps _ c.in-Some-loan_place.ensures)

pub put_loans-loop-i-preserved-in-Some-loan_place : goal.put_loans-loop-i-preserved-in-Some-loan_place
put_loans-loop-i-preserved-in-Some-loan_place t c =
    let p = c.put_ticket-total in
    going_more _ _ _ _ _ _ _ _ _ _ c.loop-i.invariant c.requires _ _ c.in-Some.ensures.steps _ c.in-Some-loan_place.ensures _ _ _
    p.array_long p.auto.out p.ensures

pub put_loans-loop-i-preserved : goal.put_loans-loop-i-preserved
put_loans-loop-i-preserved t c =
    going_past _ _ _ _ _ _ _ _ _ _ c.loop-i.invariant c.requires _ _ c.in-Some.ensures.steps c.in_default.ensures

pub put_loans-returns : goal.put_loans-returns
put_loans-returns t c = going_end _ _ _ _ _ _ _ _ _ _ c.loop-i.invariant c.requires c.in-None.ensures.steps.0

pub put_ticket-returns-then-is_marked : goal.put_ticket-returns-then-is_marked
put_ticket-returns-then-is_marked t c =
    let kept = c.requires.grant.here.kept in
    already (decode c.args.image.now) c.args.depth (name_in c.args.image.now c.args.place) c.args.marks.now c.args.out.now c.args.at
    (ap (marked_in c.args.marks.now) kept ∙ sym c.is_marked.ensures ∙ c.if-is_marked.true)

pub put_ticket-put_row-end-requires : goal.put_ticket-put_row-end-requires
put_ticket-put_row-end-requires t c =
    let pre = c.requires in
    (pre.tables, (pre.grant, line_fits _ _ _ _ _ pre (sym c.is_marked.ensures ∙ c.if-is_marked.false)))

pub put_ticket-put_loans-requires : goal.put_ticket-put_loans-requires
put_ticket-put_loans-requires t c =
    let pre = c.requires in
    let clear = sym c.is_marked.ensures ∙ c.if-is_marked.false in
    let fall = less _ _ _ _ _ pre clear in
    let now = ap unmarked c.mark.ensures in
    (omega (arith, fall, now), loans_fit _ _ _ _ _ pre clear _ c.mark.array_long c.mark.ensures _ c.put_row-end.ensures.total)

pub put_ticket-returns : goal.put_ticket-returns
put_ticket-returns t c =
    let a = c.args in
    let n = name_in a.image.now a.place in
    let kept = c.requires.grant.here.kept in
    let low : place_of (decode a.image.now) n < 256 = omega (arith, kept, c.requires.grant.here.low) in
    let clear = ap (marked_in a.marks.now) kept ∙ sym c.is_marked.ensures ∙ c.if-is_marked.false in
    let marked = c.mark.ensures ∙ ap (λ (p : ℕ). with_mark p (marked_in a.marks.now)) (sym kept) in
    line_and_loans (decode a.image.now) a.depth n _ _ _ _ _ _ _ _ _ low clear marked c.put_row-end.ensures c.put_loans.ensures
