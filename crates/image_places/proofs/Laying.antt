-- What stands at a place, counted over all pads.
use Prim.Native.Nat.{ℕ, ◌+◌, ◌*◌, ◌/◌, ◌%◌, ◌<◌}
use native.Mathlib.Omega.{arith}
use mathlib.Core.Path.{◌≡◌}
use lib.ListN.{get_or}
use Rattle.tables.specs.declared.Tables.{Tables}
use Rattle.tables.specs.Names.{free}
use Rattle.tables.specs.Lookup.{tickets_of}
use Rattle.image_places.specs.Places.{placed}

pub at_place : (t : Tables) (a b i : ℕ) → b < 8 → i < 8 → get_or (tickets_of t a b) i free ≡ placed t (64 * a + 8 * b + i)
at_place t a b i h g =
    let x : (64 * a + 8 * b + i) / 64 ≡ a = omega arith in
    let z : (64 * a + 8 * b + i) / 8 ≡ 8 * a + b = omega arith in
    let y : (64 * a + 8 * b + i) / 8 % 8 ≡ b = omega arith in
    let w : (64 * a + 8 * b + i) % 8 ≡ i = omega arith in
    rw (x, y, w)
