-- The printed rights chart. 02, 3/13: "a table of 64 answers, rows the rights asked, columns the rights held, each 0 to 7". An answer is
-- 1 where the rights asked lie within those held, else 0.
use Rattle.std.specs.Prelude.{ℕ, ◌<◌, ◌≡◌, Bool, List, [], ◌∷◌, map, eqb, length, get_or}
use Rattle.rights.specs.Rules.{rights_of, within}

-- eight numbers in a row, for the rights held, 0 to 7
abbrev pub row : ℕ → ℕ → ℕ → ℕ → ℕ → ℕ → ℕ → ℕ → List ℕ
row a b c d e f g h = a ∷ b ∷ c ∷ d ∷ e ∷ f ∷ g ∷ h ∷ []

-- eight rows, for the rights asked, 0 to 7
unfoldable pub chart : List (List ℕ)
chart =
    row 1 1 1 1 1 1 1 1 ∷
    row 0 1 0 1 0 1 0 1 ∷
    row 0 0 1 1 0 0 1 1 ∷
    row 0 0 0 1 0 0 0 1 ∷
    row 0 0 0 0 1 1 1 1 ∷
    row 0 0 0 0 0 1 0 1 ∷
    row 0 0 0 0 0 0 1 1 ∷
    row 0 0 0 0 0 0 0 1 ∷
    []

-- the answer in the row of the rights asked and the column of the rights held
unfoldable pub charted : ℕ → ℕ → Bool
charted asked held = eqb (get_or (get_or chart asked []) held 0) 1

-- ---- what is claimed of it
-- "eight rows and eight columns"
abbrev pub ChartSquare : Type 0
ChartSquare = map length chart ≡ row 8 8 8 8 8 8 8 8

-- "all 64 are document 01's rule, bit by bit"
abbrev pub ChartIsRule : Type 0
ChartIsRule = (asked held : ℕ) → asked < 8 → held < 8 → charted asked held ≡ within (rights_of asked) (rights_of held)
