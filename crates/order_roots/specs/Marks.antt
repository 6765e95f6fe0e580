-- Sheets that are marked one run after the other: what a marked run says of the marks, and which entries' runs share no sheet.
use Rattle.std.specs.Prelude.{ℕ, ◌+◌, ◌≤◌, ◌<◌, ◌≡◌, Bool, true, false, not, ◌&&◌, List, get_or}
use Rattle.lists.specs.Lists.{no_two}
use Rattle.tables.specs.declared.Entry.{Entry}
use Rattle.tables.specs.Names.{no_entry}
use Rattle.tables.specs.Sheets.{apart}
use Rattle.tables.specs.Order.{under_store}

-- a sheet of the run is marked
pub record Shared (first count : ℕ) (marks : List ℕ) : Type 0 where
  pub at : ℕ
  pub low : at < count
  pub marked : get_or marks (first + at) 0 ≡ 0 → ⊥

-- no sheet of the run was marked; now they are, and no others are changed
pub record Fresh (first count : ℕ) (before after : List ℕ) : Type 0 where
  pub clear : (i : ℕ) → i < count → get_or before (first + i) 0 ≡ 0
  pub inside : (i : ℕ) → i < count → get_or after (first + i) 0 ≡ 1
  pub below : (s : ℕ) → s < first → get_or after s 0 ≡ get_or before s 0
  pub above : (s : ℕ) → first + count ≤ s → get_or after s 0 ≡ get_or before s 0

-- the answer of marking a run
pub record Marked (first count : ℕ) (before after : List ℕ) (r : Bool) : Type 0 where
  pub fresh : r ≡ true → Fresh first count before after
  pub shared : r ≡ false → Shared first count before

-- each live entry's sheets are some, and lie in the store
abbrev pub Spanned : List Entry → Type 0
Spanned es =
    (i : ℕ) → i < 256 → (get_or es i no_entry).live ≡ true
    → (1 ≤ (get_or es i no_entry).count) × ((get_or es i no_entry).first + (get_or es i no_entry).count ≤ 256)

-- "Entries directly under the store share no sheet."
unfoldable pub roots_in : List Entry → Bool
roots_in es = no_two (λ e. e.live && under_store e) (λ e other. not (apart e.first e.count other.first other.count)) es
