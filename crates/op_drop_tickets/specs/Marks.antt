-- What goes, by names and by the places of a pad: the chains of parents are walked from place to place, and what goes is marked.
use Rattle.std.specs.Prelude.{ℕ, Bool, ◌||◌, List, eqb}
use Rattle.lists.specs.Parts.{tabulate}
use Rattle.image_places.specs.Walk.{leads_to}
use Rattle.tables.specs.declared.{Name.Name, Tables.Tables}
use Rattle.tables.specs.Names.{eq_name}
use Rattle.tables.specs.Chains.{at_or_under}
use Rattle.image_pads.specs.Places.{numbers_of, place_in, ups_of}

-- by names: `also`, x and what is under x
abbrev pub also_under : Tables → Name → Name → Name → Bool
also_under t also x n = eq_name n also || at_or_under t x n

-- place i is `also`, or its chain comes to x
unfoldable pub goes : List ℕ → ℕ → ℕ → ℕ → Bool
goes up also x i = eqb i also || leads_to 64 up x i

-- the same of the tables, by the places of x's pad
unfoldable pub under_on : Tables → Name → Name → ℕ → Bool
under_on t also x i =
    let numbers = numbers_of t x.pad in
    goes (ups_of t x.pad numbers) (place_in numbers also.program also.number) (place_in numbers x.program x.number) i

-- a pad's 64 places, marked where the test picks one
unfoldable pub marks_of : (ℕ → Bool) → List Bool
marks_of test = tabulate 64 test
