-- Where a take lies, computed at the edges: the checker runs the definitions on each of them.
use Prim.Native.Nat.{ℕ}
use mathlib.Core.Path.{◌≡◌, refl}
use mathlib.Core.List.{List, [], ◌∷◌}
use Rattle.lists.specs.Lists.{all, keep, least}
use Rattle.rights.specs.Rules.{rights_of}
use Rattle.tables.specs.declared.Entry.{Entry}
use Rattle.tables.specs.Names.{name_of, no_name, no_entry, entry_for}
use Rattle.tables.specs.Sheets.{apart, outside, is_free_run}
use Rattle.best_fit.specs.BestFit.{run_at, smallest_below, best_fit}

-- an entry of so many sheets
abbrev from : ℕ → ℕ → Entry
from first count = entry_for (name_of 0 0 1) no_name first count (rights_of 7)

-- holes of ten sheets at 0, of four at 11 and at 16, and the rest of the store from 21 on
abbrev holes : List Entry
holes = from 10 1 ∷ no_entry ∷ from 15 1 ∷ from 20 1 ∷ []

-- all but two sheets at 0 and the last one
abbrev almost_full : List Entry
almost_full = from 2 253 ∷ []

record Placed : Type 0 where
  equal_holes : best_fit holes 3 ≡ 11
  exact_above_larger : best_fit (from 11 4 ∷ holes) 4 ≡ 16
  one_too_short_one_too_long : best_fit holes 11 ≡ 21
  at_sheet_0 : best_fit holes 10 ≡ 0
  exact_below_larger : best_fit (from 2 1 ∷ []) 2 ≡ 0
  at_the_end : best_fit almost_full 1 ≡ 255
  whole_store : best_fit [] 256 ≡ 0
  full_store : best_fit (from 0 2 ∷ from 255 1 ∷ almost_full) 1 ≡ 256
  too_long : best_fit almost_full 3 ≡ 256

-- Entries that no table in order has. One without sheets lies within no run: it parts the sheets before it from those behind it, as it did
-- before. What lies behind the store takes nothing of it.
record Odd : Type 0 where
  without_sheets : best_fit (from 5 0 ∷ []) 3 ≡ 0
  parted : best_fit (from 5 0 ∷ []) 6 ≡ 5
  parted_has_none : best_fit (from 128 0 ∷ []) 129 ≡ 256
  without_sheets_at_0 : best_fit (from 0 0 ∷ []) 256 ≡ 0
  beyond_the_store : best_fit (from 250 100 ∷ []) 250 ≡ 0
  behind_the_store : best_fit (from 300 1 ∷ []) 256 ≡ 0
  shared : best_fit (from 0 9 ∷ from 4 6 ∷ from 12 3 ∷ []) 2 ≡ 10

placed : Placed
unfolding all keep least apart outside is_free_run run_at smallest_below best_fit
placed = record {
  equal_holes = refl;
  exact_above_larger = refl;
  one_too_short_one_too_long = refl;
  at_sheet_0 = refl;
  exact_below_larger = refl;
  at_the_end = refl;
  whole_store = refl;
  full_store = refl;
  too_long = refl;
}

odd : Odd
unfolding all keep least apart outside is_free_run run_at smallest_below best_fit
odd = record {
  without_sheets = refl;
  parted = refl;
  parted_has_none = refl;
  without_sheets_at_0 = refl;
  beyond_the_store = refl;
  behind_the_store = refl;
  shared = refl;
}
