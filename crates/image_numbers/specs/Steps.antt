-- The walk over a program's places by number, step by step.
use Rattle.std.specs.Prelude.{ℕ, ◌≡◌, Option, MatchOption, get_or}
use Rattle.image_numbers.specs.declared.Walk.{Walk}
use Rattle.image_numbers.specs.Numbers.{NoneAbove, NextAbove}

-- the next place is that of the least number above `after`, and from there the walk goes on; after the last number it stays
abbrev pub NextPlace : Walk → Option ℕ → Walk → Type 0
NextPlace s r t =
    MatchOption r (NoneAbove s.numbers s.after × (t ≡ s))
    (λ i. NextAbove s.numbers s.after i × (t ≡ record { numbers = s.numbers; after = get_or s.numbers i 0 }))
