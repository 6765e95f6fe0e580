-- What the last part of T5 tests, and what the test of T5 answers.
use Rattle.std.specs.Prelude.{ℕ, ◌≡◌, Bool, true, ◌&&◌, List, ltb, get_or}
use Rattle.lists.specs.Tests.{implies}
use Rattle.lists.specs.Lists.{all_at}
use Rattle.tables.specs.declared.{Ticket.Ticket, Tables.Tables}
use Rattle.tables.specs.Kinds.{is_taken}
use Rattle.tables.specs.Order.{t5}
use Rattle.image_places.specs.Places.{Noted}

-- "Every taken grant has its entry.": its note
unfoldable pub has_note : List ℕ → ℕ → Ticket → Bool
has_note notes p k = implies (is_taken k.kind) (ltb (get_or notes p 256) 256)

unfoldable pub taken_noted : List ℕ → List Ticket → Bool
taken_noted notes tickets = all_at (has_note notes) 0 tickets

-- the answer is T5, where each entry is live or not, and a yes leaves the entries noted
pub record EntryOrder (lives : Bool) (t : Tables) (numbers notes : List ℕ) (r : Bool) : Type 0 where
  pub same : r ≡ (lives && t5 t)
  pub noted : r ≡ true → Noted t numbers notes
