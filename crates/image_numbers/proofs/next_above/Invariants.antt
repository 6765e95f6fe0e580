-- The places below i have been looked at.
use Rattle.image_numbers.proofs.Least.{Best}
use Rattle.image_numbers.proofs.next_above.Given as goal

abbrev pub invariant-loop-i : goal.invariant-loop-i
invariant-loop-i l = Best l.numbers l.after l.next l.least l.i
