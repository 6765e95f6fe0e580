-- The lengths of lent buffers, and of an answer's numbers.
use Prim.Native.Nat.{ℕ, ◌*◌, ◌/◌}
use mathlib.Core.Path.{◌≡◌, refl}
use mathlib.Core.Bool.{true}
use lib.ListN.{length}
use borrow.Author.Tests.{eqb-true}
use Rattle.lists.proofs.Tests.{and_l, and_r}
use Rattle.machine.specs.declared.Answer.{Answer}
use Rattle.machine.specs.Numbers.{request_width, answer_width, answer_numbers}
use Rattle.image.specs.Layout.{image_size}
use Rattle.lending.specs.Batch.{lengths_fit}

pub answer_long : (a : Answer) → length (answer_numbers a) ≡ answer_width
unfolding answer_numbers
answer_long a = refl

pub record Fit (tables' store' sheets' requests' answers' : ℕ) : Type 0 where
  pub tables : tables' ≡ image_size
  pub store : store' ≡ 16384
  pub sheets : sheets' ≡ 64 * (requests' / request_width)
  pub requests : requests' ≡ request_width * (requests' / request_width)
  pub answers : answers' ≡ answer_width * (requests' / request_width)

pub fit : (a b c d e : ℕ) → lengths_fit a b c d e ≡ true → Fit a b c d e
unfolding lengths_fit
fit a b c d e h = record {
  tables = eqb-true a image_size (search (and_l, and_r) depth 8);
  store = eqb-true b 16384 (search (and_l, and_r) depth 8);
  sheets = eqb-true c (64 * (d / request_width)) (search (and_l, and_r) depth 8);
  requests = eqb-true d (request_width * (d / request_width)) (search (and_l, and_r) depth 8);
  answers = eqb-true e (answer_width * (d / request_width)) (search (and_l, and_r) depth 8);
}
