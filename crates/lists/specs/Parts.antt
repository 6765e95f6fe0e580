-- Lists made for the numbers below n: an element for each, or a part for each.
use Rattle.std.specs.Prelude.{ℕ, zero, suc, List, [], ◌∷◌, ◌++◌}

-- element 0, element 1 and so on, n of them
unfoldable pub tabulate : {A : Type 0} → ℕ → (ℕ → A) → List A
tabulate zero element = []
tabulate (suc n) element = element 0 ∷ tabulate n (λ i. element (suc i))

-- part 0, part 1 and so on, n of them, one behind the other
unfoldable pub joined : {A : Type 0} → ℕ → (ℕ → List A) → List A
joined zero part = []
joined (suc n) part = joined n part ++ part n
