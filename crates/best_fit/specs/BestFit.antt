-- Which sheets a take uses. Document 02, 5/13: "A take shall now use the smallest free run that is long enough, the lowest one among equals,
-- from its lowest sheet. A free run is one that can't be made longer."
use Rattle.std.specs.Prelude.{ℕ, zero, suc, ◌-◌, Bool, not, ◌&&◌, ◌||◌, cond, List, leb, ltb, eqb}
use Rattle.lists.specs.Lists.{keep, least}
use Rattle.tables.specs.declared.Entry.{Entry}
use Rattle.tables.specs.Sheets.{is_free_run}
use Rattle.best_fit.specs.declared.Run.{Run}

-- by a test of runs, `free count first`: the count sheets from first on are free
module _ (free : ℕ → ℕ → Bool) where
  -- how many sheets the free run has that begins at the sheet: as many as are free from there on; none, where it could begin a sheet lower
  unfoldable pub run_at : ℕ → ℕ
  run_at first =
      let sheets = least (λ more. not (free (suc more) first)) 256 0 in
      cond (eqb first 0 || not (free 2 (first - 1))) sheets 0

  -- of the free runs that begin below the sheet "the smallest .. that is long enough, the lowest one among equals"; 257 sheets where none is
  unfoldable pub smallest_below : ℕ → ℕ → Run
  smallest_below count zero = record { first = 256; count = 257 }
  smallest_below count (suc first) =
      let lower = smallest_below count first in
      let sheets = run_at first in
      cond (leb count sheets && ltb sheets lower.count) (record { first = first; count = sheets }) lower

-- the sheet from which on a take of count sheets lies; 256 where there is no room. Free records have no sheets
unfoldable pub best_fit : List Entry → ℕ → ℕ
best_fit entries count = (smallest_below (is_free_run (keep (λ e. e.live) entries)) count 256).first
