-- The parents of entries by places.
use Rattle.std.specs.Prelude.{ℕ, ◌≡◌, Bool, true, ◌&&◌, cond, List, map}
use Rattle.lists.specs.Tests.{implies}
use Rattle.lists.specs.Lists.{all}
use Rattle.tables.specs.declared.Entry.{Entry}
use Rattle.tables.specs.Order.{parent_entry_ok}
use Rattle.order_lists.specs.Listing.{is_hung}
use Rattle.order_entry_notes.specs.Notes.{note_of, entry_by}
use Rattle.order_entry_chains.specs.Ends.{all_end}

-- "A parent entry is live, has the pass on right and contains the entry's sheets and rights."
unfoldable pub has_parent : List ℕ → List ℕ → List Entry → Entry → Bool
has_parent numbers notes es e = implies (is_hung e) (parent_entry_ok e (entry_by numbers notes es e.parent))

-- the place of the parent entry; 256 where there is none
unfoldable pub up_of : List ℕ → List ℕ → Entry → ℕ
up_of numbers notes e = cond (is_hung e) (note_of numbers notes e.parent) 256

-- the answer, and the places of all parents
pub record Linking (numbers notes : List ℕ) (es : List Entry) (up : List ℕ) (r : Bool) : Type 0 where
  pub same : r ≡ all (has_parent numbers notes es) es
  pub ups : r ≡ true → up ≡ map (up_of numbers notes) es

-- every parent is there, and every chain of parents ends
unfoldable pub hung_ok : List ℕ → List ℕ → List Entry → Bool
hung_ok numbers notes es = all (has_parent numbers notes es) es && all_end (map (up_of numbers notes) es)
