use lib.Dec.{eqb}
use Rattle.image_places.proofs.Search.{Lowest}
use Rattle.image_places.proofs.index_of.Given as goal

abbrev pub invariant-loop-i : goal.invariant-loop-i
invariant-loop-i l = Lowest (λ x. eqb x l.number) l.numbers 0 l.i l.found
