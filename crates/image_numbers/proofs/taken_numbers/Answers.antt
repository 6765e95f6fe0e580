use Rattle.std.proofs.Common.{rules}
use Rattle.image_numbers.specs.Numbers.{numbers_in}
use Rattle.image_numbers.proofs.Made.{made}
use Rattle.image_numbers.proofs.taken_numbers.Goals as goal

pub returns : goal.returns
unfolding numbers_in
returns c = made _ _ _ 8 _ (λ i r f' low called. search rules) c.from_fn.ensures.items
