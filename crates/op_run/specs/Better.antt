-- A run closed by an entry or by the store's end, against the one that was found before it.
use Rattle.std.specs.Prelude.{ℕ, ◌-◌, ◌&&◌, cond, leb, ltb}
use Rattle.best_fit.specs.declared.Run.{Run}

-- the sheets from start up to end, where they are some, count or more, and fewer than were found
unfoldable pub better_of : Run → ℕ → ℕ → ℕ → Run
better_of found start end count =
    cond (ltb start end && leb count (end - start) && ltb (end - start) found.count) (record { first = start; count = end - start }) found
