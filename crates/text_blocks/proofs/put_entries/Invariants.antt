-- The lines of the entries whose grants have a number up to the walk's are put.
use Rattle.image.specs.Image.{decode}
use Rattle.saved_blocks.specs.Blocks.{has_entry, entry_line}
use Rattle.text_blocks.proofs.Going.{Going}
use Rattle.text_blocks.proofs.put_entries.Given as goal

abbrev pub invariant-loop-i : goal.invariant-loop-i
invariant-loop-i l = Going l.image (has_entry (decode l.image)) (entry_line (decode l.image)) l.program l.initial.out l.at l.i-iterator l.out l.end
