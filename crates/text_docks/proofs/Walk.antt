-- The walk along parents, step by step.
use Prim.Native.Nat.{ℕ, zero, suc, ◌-◌, ◌<◌}
use native.Mathlib.Omega.{arith}
use mathlib.Core.Path.{◌≡◌, refl, sym, ap}
use borrow.Author.Tests.{eq-eqb, ne_eqb}
use Rattle.tables.specs.declared.{Name.Name}
use Rattle.tables.specs.Names.{no_name}
use Rattle.tables.specs.Chains.{end_of}

module _ (parent : Name → Name) where
  pub out_of_places : (left : ℕ) (n : Name) → (0 < left → ⊥) → end_of left parent n ≡ no_name
  unfolding end_of
  out_of_places zero n h = refl
  out_of_places (suc left) n h = absurd (h (omega arith))

  pub ends_here : (left : ℕ) (n up : Name) → 0 < left → up ≡ parent n → up.number ≡ 0 → end_of left parent n ≡ n
  unfolding end_of
  ends_here zero n up h e z = absurd (omega arith)
  ends_here (suc left) n up h e z = rw (sym e, eq-eqb up.number 0 z)

  pub goes_up : (left : ℕ) (n up : Name) → 0 < left → up ≡ parent n → (up.number ≡ 0 → ⊥) → end_of left parent n ≡ end_of (left - 1) parent up
  unfolding end_of
  goes_up zero n up h e z = absurd (omega arith)
  goes_up (suc left) n up h e z =
      let less : left ≡ suc left - 1 = omega arith in
      rw (sym e, ne_eqb up.number 0 z) (ap (λ (k : ℕ). end_of k parent up) less)
