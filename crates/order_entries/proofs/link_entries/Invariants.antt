use Rattle.image_read.specs.Places.{entries_in}
use Rattle.order_entries.proofs.Linking.{SoFar}
use Rattle.order_entries.proofs.link_entries.Given as goal

abbrev pub invariant-loop-at : goal.invariant-loop-at
invariant-loop-at l = SoFar l.numbers l.notes (entries_in l.image) l.hung l.at-index l.up
