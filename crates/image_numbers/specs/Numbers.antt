-- A program's tickets by number, as the code goes over them: the numbers of those that pass, each in its place, and the next one above a
-- number.
use Rattle.std.specs.Prelude.{ℕ, ◌+◌, ◌*◌, ◌≤◌, ◌<◌, Bool, cond, List, length, get_or}
use Rattle.lists.specs.Parts.{tabulate}
use Rattle.tables.specs.declared.Ticket.{Ticket}
use Rattle.tables.specs.Names.{free}

-- the number of a ticket that passes; 0, which no live ticket has, for the others
unfoldable pub number_if : (Ticket → Bool) → Ticket → ℕ
number_if test k = cond (test k) k.number 0

-- those in the eight places of a program, programs counted over all pads
unfoldable pub numbers_in : (Ticket → Bool) → List Ticket → ℕ → List ℕ
numbers_in test tickets program = tabulate 8 (λ i. number_if test (get_or tickets (8 * program + i) free))

-- no number is above `after`
pub record NoneAbove (numbers : List ℕ) (after : ℕ) : Type 0 where
  pub none : (i : ℕ) → i < length numbers → get_or numbers i 0 ≤ after

-- r is the place of the least number above `after`
pub record NextAbove (numbers : List ℕ) (after r : ℕ) : Type 0 where
  pub low : r < length numbers
  pub above : after < get_or numbers r 0
  pub least : (i : ℕ) → i < length numbers → after < get_or numbers i 0 → get_or numbers r 0 ≤ get_or numbers i 0
