-- What the routines below the value reader answer: the number of a field that passed their test.
use Rattle.std.specs.Prelude.{ℕ, Bool, cond, List, Option, Some, None}
use Rattle.text.specs.Reading.{number}

unfoldable pub number_if : Bool → List ℕ → Option ℕ
number_if passed field = cond passed (Some (number field)) None
