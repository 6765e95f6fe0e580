-- One step of the walks along parents by places, with places left.
use Prim.Native.Nat.{ℕ, zero, suc, ◌-◌, ◌<◌}
use native.Mathlib.Numerals.{unary_clauses}
use native.Mathlib.Omega.{arith}
use mathlib.Core.Path.{◌≡◌}
use mathlib.Core.Bool.{◌&&◌, ◌||◌, cond}
use mathlib.Core.List.{List}
use lib.Dec.{eqb}
use Rattle.image_places.specs.Walk.{parent_at, has_parent, end_from, leads_to}

pub end_step : (left : ℕ) (up : List ℕ) (i : ℕ) → 0 < left
    → end_from left up i ≡ cond (has_parent up i) (end_from (left - 1) up (parent_at up i)) i
unfolding end_from
end_step zero up i h = absurd (omega arith)
end_step (suc left) up i h = simp unary_clauses

pub leads_step : (left : ℕ) (up : List ℕ) (x i : ℕ) → 0 < left
    → leads_to left up x i ≡ (eqb i x || (has_parent up i && leads_to (left - 1) up x (parent_at up i)))
unfolding leads_to
leads_step zero up x i h = absurd (omega arith)
leads_step (suc left) up x i h = simp unary_clauses
