-- Where entries end, kept by the sheets where they begin, and below which sheet all begin: what is noted before the sheets are gone over.
use Rattle.std.specs.Prelude.{ℕ, ◌+◌, ◌≡◌, ◌&&◌, max, cond, List, [], ◌∷◌, ltb, get_or, set}
use Rattle.tables.specs.declared.Entry.{Entry}

-- the end of a live entry noted at its first sheet, unless one that is further stands there
unfoldable pub note_end : Entry → List ℕ → List ℕ
note_end e ends =
    cond (e.live && ltb e.first 256)
    (set ends e.first (max (get_or ends e.first 0) (e.first + e.count)))
    ends

-- the ends of all entries, one after the other
unfoldable pub note_ends : List Entry → List ℕ → List ℕ
note_ends [] ends = ends
note_ends (e ∷ entries) ends = note_ends entries (note_end e ends)

-- the sheet behind the first one of a live entry, unless `bound` is further
unfoldable pub begins_below : Entry → ℕ → ℕ
begins_below e bound = cond (e.live && ltb e.first 256) (max bound (e.first + 1)) bound

-- the sheet below which all entries begin
unfoldable pub begin_below : List Entry → ℕ → ℕ
begin_below [] bound = bound
begin_below (e ∷ entries) bound = begin_below entries (begins_below e bound)

-- what the code notes of one entry, and of all
pub record NotesEnd (e : Entry) (before after : List ℕ) (old new : ℕ) : Type 0 where
  pub ends : after ≡ note_end e before
  pub bound : new ≡ begins_below e old

pub record NotesEnds (entries : List Entry) (before after : List ℕ) (new : ℕ) : Type 0 where
  pub ends : after ≡ note_ends entries before
  pub bound : new ≡ begin_below entries 0
