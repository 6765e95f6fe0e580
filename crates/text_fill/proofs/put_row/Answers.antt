-- The line is counted, and fills the next place of its sort.
use mathlib.Core.Path.{refl, ap, ◌∙◌}
use native.Mathlib.Omega.{arith}
use lib.ListN.{get_or}
use Rattle.text_fill.proofs.Putting.{tallied, entry_place_lem, ticket_place, place_low_lem, filled_last, filled_entry, filled_ticket}
use Rattle.saved.proofs.RowLaws.{ranges}
use Rattle.text_fill.proofs.Sorts.{is_last_row_lem, is_entry_row_lem, is_ticket_row_lem, sort_last, sort_ticket}
use Rattle.text_fill.proofs.put_row.Goals as goal

pub put_last-requires : goal.put_last-requires
put_last-requires c =
    let r = c.args.r in
    let w = ranges r c.requires.1.0 in
    (c.requires.0, omega (arith, c.sort_of-sort.ensures, sort_last r (is_last_row_lem r c.in-0.is), w.pad, w.program))

pub returns-in-0-clause-tallied : goal.returns-in-0-clause-tallied
returns-in-0-clause-tallied c = λ before t. tallied before c.args.r c.requires.1.0 c.args.tally.now t _ _ c.sort_of-sort.ensures refl

pub returns-in-0-clause-filled : goal.returns-in-0-clause-filled
returns-in-0-clause-filled c =
    let r = c.args.r in
    λ before t f. filled_last before r c.args.image.now _ f (is_last_row_lem r c.in-0.is) _ c.sort_of-sort.ensures c.put_last.ensures

pub returns-in-5-clause-tallied : goal.returns-in-5-clause-tallied
returns-in-5-clause-tallied c = λ before t. tallied before c.args.r c.requires.1.0 c.args.tally.now t _ _ c.sort_of-sort.ensures refl

pub returns-in-5-clause-filled : goal.returns-in-5-clause-filled
returns-in-5-clause-filled c =
    let r = c.args.r in
    let k = is_entry_row_lem r c.in-5.is in
    λ before t f. filled_entry before r c.args.image.now _ f k _
    (entry_place_lem before r c.requires.1.0 c.args.tally.now t _ _ c.sort_of-sort.ensures c.from-count.ensures k) _ c.entry_in.ensures c.put_entry.ensures

pub overflow_sub-place : goal.overflow_sub-place
overflow_sub-place c =
    let r = c.args.r in
    omega (arith, c.sort_of-sort.ensures, sort_ticket r (is_ticket_row_lem r c.requires.1.0 (λ e. omega (arith, e)) (λ e. omega (arith, e))))

pub put_ticket-requires : goal.put_ticket-requires
put_ticket-requires c =
    let r = c.args.r in
    let n = ap (λ s. get_or c.args.tally.now s 0) c.sort_of-sort.ensures in (
      c.requires.0,
      place_low_lem r c.requires.1.0 _ _ _ c.sort_of-sort.ensures (c.from-count.ensures ∙ n) c.requires.1.1
          (is_ticket_row_lem r c.requires.1.0 (λ e. omega (arith, e)) (λ e. omega (arith, e))),
    )

pub returns-in_default-clause-tallied : goal.returns-in_default-clause-tallied
returns-in_default-clause-tallied c = λ before t. tallied before c.args.r c.requires.1.0 c.args.tally.now t _ _ c.sort_of-sort.ensures refl

pub returns-in_default-clause-filled : goal.returns-in_default-clause-filled
returns-in_default-clause-filled c =
    let r = c.args.r in
    let o = c.requires.1.0 in
    let k = is_ticket_row_lem r o (λ e. omega (arith, e)) (λ e. omega (arith, e)) in
    λ before t f. filled_ticket before r c.args.image.now _ f k _
    (ticket_place before r o c.args.tally.now t _ _ c.sort_of-sort.ensures c.from-count.ensures k) _ c.ticket_in.ensures c.put_ticket.ensures
