-- `place_in` by cases.
use Prim.Native.Nat.{ℕ, ◌+◌, ◌≤◌, ◌<◌}
use mathlib.Core.Path.{◌≡◌, sym}
use mathlib.Core.Bool.{true, false}
use mathlib.Core.List.{List}
use lib.Dec.{eqb}
use lib.ListN.{take, drop}
use borrow.Author.Tests.{lt-ltb, le-ltb, eq-eqb, ne_eqb}
use Rattle.lists.specs.Lists.{first_index}
use Rattle.tables.specs.declared.Name.{Name}
use Rattle.tables.specs.Names.{is_program}
use Rattle.image_places.specs.Places.{start_of, place_in}

module _ (numbers : List ℕ) (n : Name) where
  pub no_program_lem : is_program n.pad n.program ≡ false → place_in numbers n ≡ 256
  unfolding place_in
  no_program_lem h = rw h

  module _ (p : is_program n.pad n.program ≡ true) where
    pub no_number : n.number ≡ 0 → place_in numbers n ≡ 256
    unfolding place_in
    no_number h = rw (p, eq-eqb n.number 0 h)

    module _ (z : n.number ≡ 0 → ⊥) (i : ℕ) (e : i ≡ first_index (λ x. eqb x n.number) (take 8 (drop (start_of n) numbers))) where
      pub not_there : 8 ≤ i → place_in numbers n ≡ 256
      unfolding place_in
      not_there h = rw (p, ne_eqb n.number 0 z, sym e, le-ltb i 8 h)

      pub is_there : i < 8 → place_in numbers n ≡ start_of n + i
      unfolding place_in
      is_there h = rw (p, ne_eqb n.number 0 z, sym e, lt-ltb i 8 h)
