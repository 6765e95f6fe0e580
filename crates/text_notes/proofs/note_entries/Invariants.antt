-- The first i entries are noted.
use Rattle.text_notes.proofs.Noting.{NotesTo}
use Rattle.text_notes.proofs.note_entries.Given as goal

abbrev pub invariant-loop-i : goal.invariant-loop-i
invariant-loop-i l = NotesTo l.image l.notes l.i
