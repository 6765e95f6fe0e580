-- What is claimed of the sheets that a take uses: they begin the hole that document 02, 5/13 says, and there is one exactly where 11 is not
-- given.
use Rattle.std.specs.Prelude.{ℕ, ◌+◌, ◌≤◌, ◌≡◌, true, List, ltb}
use Rattle.tables.specs.declared.Entry.{Entry}
use Rattle.tables.specs.Sheets.{is_free_run, has_run}
use Rattle.best_fit.specs.declared.Run.{Run}
use Rattle.best_fit.specs.BestFit.{best_fit}

-- a hole, "A free run is one that can't be made longer": no run that holds it and lies outside all entries has more sheets
pub record Hole (entries : List Entry) (run : Run) : Type 0 where
  pub some : 1 ≤ run.count
  pub free : is_free_run entries run.count run.first ≡ true
  pub longest : (other : Run) → other.first ≤ run.first → run.first + run.count ≤ other.first + other.count
      → is_free_run entries other.count other.first ≡ true → other.count ≤ run.count

-- "the smallest free run that is long enough, the lowest one among equals"
pub record BestFit (entries : List Entry) (count : ℕ) (run : Run) : Type 0 where
  pub is : Hole entries run
  pub enough : count ≤ run.count
  pub smallest : (other : Run) → Hole entries other → count ≤ other.count → run.count ≤ other.count
  pub lowest : (other : Run) → Hole entries other → other.count ≡ run.count → run.first ≤ other.first

-- "A take shall now use" it, "from its lowest sheet"
pub record Used (entries : List Entry) (count : ℕ) : Type 0 where
  pub run : Run
  pub best : BestFit entries count run
  pub first : best_fit entries count ≡ run.first

abbrev pub SmallestHoleFirst : Type 0
SmallestHoleFirst = (entries : List Entry) (count : ℕ) → 1 ≤ count → has_run entries count ≡ true → Used entries count

-- the sentence leaves no choice
abbrev pub OneBestFit : Type 0
OneBestFit = (entries : List Entry) (count : ℕ) (run other : Run) → BestFit entries count run → BestFit entries count other → run ≡ other

-- "Refusal 11 is given in the same circumstances as before."
abbrev pub SameCircumstances : Type 0
SameCircumstances = (entries : List Entry) (count : ℕ) → 1 ≤ count → ltb (best_fit entries count) 256 ≡ has_run entries count
