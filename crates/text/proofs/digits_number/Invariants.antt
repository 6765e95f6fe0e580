-- After some bytes n is the number that they make, all of them digits: the rest decides, from n on.
use Prim.Native.Nat.{◌<◌}
use mathlib.Core.Path.{◌≡◌}
use lib.ListN.{drop}
use Rattle.lists.specs.Lists.{all}
use Rattle.text.specs.Reading.{is_digit, number_from, number}
use Rattle.text.proofs.digits_number.Given as goal

abbrev pub invariant-loop-b : goal.invariant-loop-b
invariant-loop-b l =
    (l.n < 65536) × ((all is_digit l.field ≡ all is_digit (drop l.b-index l.field)) × (number l.field ≡ number_from l.n (drop l.b-index l.field)))
