-- What removal needs of the links between entries.
use Rattle.std.specs.Prelude.{ℕ, ◌<◌, ◌≡◌, Bool, true, false, not, ◌&&◌, List, length, get_or}
use Rattle.tables.specs.declared.{Name.Name, Entry.Entry}
use Rattle.tables.specs.Names.{eq_name, is_none, no_entry}
use Rattle.tables.specs.Lookup.{entry_in}
use Rattle.tables.specs.Chains.{end_of, entry_parent}

-- a live entry whose parent is the entry n, not the store
unfoldable pub directly_below : Name → Entry → Bool
directly_below n e = e.live && (not (is_none e.parent) && eq_name e.parent n)

-- what removal needs of the entries: all of it is part of T5
pub record LinkedEntries (entries : List Entry) : Type 0 where
  -- "Entry names are distinct."
  pub distinct : (i j : ℕ) → i < length entries → j < length entries → (get_or entries i no_entry).live ≡ true → (get_or entries j no_entry).live ≡ true
      → (get_or entries i no_entry).name ≡ (get_or entries j no_entry).name → i ≡ j
  -- "A parent entry is live"
  pub parent : (n : Name) → (entry_in entries n).live ≡ true → is_none (entry_in entries n).parent ≡ false
      → (entry_in entries (entry_in entries n).parent).live ≡ true
  -- "Chains end at the store.": a walk along parents comes to a named entry before it has counted 256
  pub ends : (n : Name) → (entry_in entries n).live ≡ true → is_none (end_of 256 (entry_parent (entry_in entries)) n) ≡ false
