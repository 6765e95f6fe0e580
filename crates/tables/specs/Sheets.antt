-- Runs of sheets. The store has 256 sheets, numbered from 0; a run has the sheets from first up to first + count, that one not
-- included.
use Rattle.std.specs.Prelude.{ℕ, ◌+◌, Bool, not, ◌&&◌, ◌||◌, List, leb, ltb}
use Rattle.lists.specs.Lists.{all, least, count_below}
use Rattle.rights.specs.declared.Rights.{Rights}
use Rattle.rights.specs.Rules.{within}
use Rattle.tables.specs.declared.Entry.{Entry}

-- the two runs share no sheet
unfoldable pub apart : ℕ → ℕ → ℕ → ℕ → Bool
apart first count first' count' = leb (first + count) first' || leb (first' + count') first

-- sheets and rights lie within those that follow
unfoldable pub inside : ℕ → ℕ → Rights → ℕ → ℕ → Rights → Bool
inside first count rights first' count' rights' =
    leb first' first && leb (first + count) (first' + count') && within rights rights'

-- the run "lies outside" the entry
unfoldable pub outside : ℕ → ℕ → Entry → Bool
outside first count e = not e.live || apart first count e.first e.count

-- a run of count sheets from first on lies in the store and "outside all entries"
unfoldable pub is_free_run : List Entry → ℕ → ℕ → Bool
is_free_run entries count first = leb (first + count) 256 && all (outside first count) entries

-- the first sheet of the lowest such run, 256 where there is none: whether there is one. Which one a take uses, best_fit says (02, 5/13)
unfoldable pub lowest_run : List Entry → ℕ → ℕ
lowest_run entries count = least (is_free_run entries count) 256 0

-- there is such a run
unfoldable pub has_run : List Entry → ℕ → Bool
has_run entries count = ltb (lowest_run entries count) 256

-- the sheet lies outside all entries
unfoldable pub is_free_sheet : List Entry → ℕ → Bool
is_free_sheet entries sheet = all (outside sheet 1) entries

-- how many such sheets the store has, counted sheet by sheet
unfoldable pub sheets_free : List Entry → ℕ
sheets_free entries = count_below 256 (is_free_sheet entries)
