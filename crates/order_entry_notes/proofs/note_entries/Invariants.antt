-- The places before i have passed: `Passed` says what is known then.
use Rattle.order_entry_notes.proofs.Passing.{Passed}
use Rattle.order_entry_notes.proofs.note_entries.Given as goal

abbrev pub invariant-loop-i : goal.invariant-loop-i
invariant-loop-i l = Passed l.image l.numbers l.i l.notes l.roots l.hung l.received l.listed.roots l.listed.hung
