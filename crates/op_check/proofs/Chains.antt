-- A chain of refusals from the results of its tests: a test that passed decides, one that failed leaves it to the rest.
use Prim.Native.Nat.{ℕ}
use mathlib.Core.Path.{◌≡◌}
use mathlib.Core.Bool.{Bool, true, false}
use Rattle.std.proofs.lemmas.Bool.Decides.{nat_tests}
use Rattle.machine.specs.Refusal.{◌when◌else◌}

pub when_true : (n : ℕ) (b : Bool) (later : ℕ) → b ≡ true → (n when b else later) ≡ n
unfolding ◌when◌else◌
when_true n b later e = rw e

pub when_false : (n : ℕ) (b : Bool) (later : ℕ) → b ≡ false → (n when b else later) ≡ later
unfolding ◌when◌else◌
when_false n b later e = rw e

pub ruleset chain = (when_true, when_false, nat_tests)
