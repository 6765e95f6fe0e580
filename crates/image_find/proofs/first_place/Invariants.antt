-- No place so far passes.
use Rattle.std.proofs.Common.{ℕ, ◌<◌, false}
use Rattle.image_find.proofs.first_place.Given as goal

abbrev pub invariant-loop-i : goal.invariant-loop-i
invariant-loop-i g l = (j : ℕ) → j < l.i → goal.F-post g l.passes j false
