-- The two call each other: the measure is twice the places that are not marked, and one more in front of the loans.
use Prim.Native.Nat.{◌+◌, ◌*◌}
use Rattle.text_marks.specs.Marks.{marked_in, unmarked}
use Rattle.text_loans.proofs.Going.{Going}
use Rattle.text_loans.proofs.+put_loans_put_ticket.Given as goal

abbrev pub decreases-put_loans : goal.decreases-put_loans
decreases-put_loans l = 2 * unmarked (marked_in l.marks.now) + 1

abbrev pub decreases-put_ticket : goal.decreases-put_ticket
decreases-put_ticket l = 2 * unmarked (marked_in l.marks.now)

abbrev pub invariant-put_loans-loop-i : goal.invariant-put_loans-loop-i
invariant-put_loans-loop-i l =
    Going l.image l.initial.marks l.initial.out l.at l.depth l.place l.i-iterator l.marks l.out l.total
