-- A program has a free place exactly where its lowest one is below 8.
use Prim.Native.Nat.{ℕ, ◌≤◌, ◌<◌}
use native.Mathlib.Omega.{arith}
use mathlib.Core.Path.{◌≡◌}
use mathlib.Core.Bool.{true, false}
use lib.ListN.{length}
use Rattle.lists.specs.Lists.{first_index}
use Rattle.lists.proofs.Tests.{cannot_pass}
use Rattle.lists.proofs.Search.{some_first, first_some}
use Rattle.tables.specs.declared.Tables.{Tables}
use Rattle.tables.specs.Lookup.{tickets_of}
use Rattle.tables.specs.Change.{is_free, has_place}

module _ (t : Tables) (pad program : ℕ) (long : length (tickets_of t pad program) ≡ 8) (i : ℕ) (e : i ≡ first_index is_free (tickets_of t pad program)) where
  pub has_place_lem : i < 8 → has_place t pad program ≡ true
  unfolding has_place
  has_place_lem h = first_some is_free (tickets_of t pad program) (omega (arith, h, e, long))

  pub has_no_place : 8 ≤ i → has_place t pad program ≡ false
  unfolding has_place
  has_no_place h = cannot_pass _ (λ s. omega (arith, some_first is_free (tickets_of t pad program) s, h, e, long))
