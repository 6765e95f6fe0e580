-- No ticket of the program so far has the number.
use Rattle.std.proofs.Common.{◌≡◌, ℕ, ◌+◌, ◌<◌, false, get_or}
use Rattle.tables.specs.Names.{free}
use Rattle.tables.specs.Lookup.{has_number}
use Rattle.image_read.specs.Places.{tickets_in}
use Rattle.image_find.proofs.found.Given as goal

abbrev pub invariant-loop-i : goal.invariant-loop-i
invariant-loop-i l = (j : ℕ) → j < l.i → has_number l.n.number (get_or (tickets_in l.image) (l.from + j) free) ≡ false
