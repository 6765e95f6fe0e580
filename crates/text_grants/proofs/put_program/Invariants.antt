-- The taken grants with a number up to the walk's are printed, and their sheets added.
use Rattle.text_grants.proofs.Grants.{Going}
use Rattle.text_grants.proofs.put_program.Given as goal

abbrev pub invariant-loop-i : goal.invariant-loop-i
invariant-loop-i l =
    Going l.image l.initial.marks l.initial.out (record { end = l.initial.end; sheets = l.initial.sheets }) l.program l.i-iterator l.marks l.out l.end l.sheets
