-- The walk along parents, step by step, counting its links.
use Prim.Native.Nat.{ℕ, suc, ◌+◌, ◌-◌, ◌≤◌, ◌<◌}
use native.Mathlib.Omega.{arith}
use mathlib.Core.Path.{◌≡◌, sym, ap, ◌∙◌}
use borrow.Author.Tests.{eq-eqb, ne_eqb}
use Rattle.tables.specs.declared.{Name.Name}
use Rattle.tables.specs.Names.{is_none}
use Rattle.tables.specs.Chains.{links_of}
use Rattle.tables.proofs.Links.{links_here, links_next}

module _ (parent : Name → Name) where
  -- ---- counting the links from n: `count` of them lead to some name, whose parent is `up`
  pub record Counted (n : Name) (count : ℕ) (up : Name) : Type 0 where
    pub low : count ≤ 64
    pub at : Name
    pub parent_of : up ≡ parent at
    pub links : links_of 64 parent n ≡ count + links_of (64 - count) parent at

  pub none_counted : (n up : Name) → up ≡ parent n → Counted n 0 up
  none_counted n up e = record { low = omega arith; at = n; parent_of = e; links = omega arith }

  module _ (n : Name) (count : ℕ) (up : Name) (so : Counted n count up) where
    ends_with : links_of (64 - count) parent so.at ≡ 0 → count ≡ links_of 64 parent n
    ends_with e = sym (so.links ∙ ap (λ (k : ℕ). count + k) e ∙ omega arith)

    pub at_the_head : up.number ≡ 0 → count ≡ links_of 64 parent n
    at_the_head z = ends_with (links_here parent (64 - count) so.at (ap is_none (sym so.parent_of) ∙ eq-eqb up.number 0 z))

    pub places_spent : 64 ≤ count → count ≡ links_of 64 parent n
    unfolding links_of
    places_spent h = ends_with (ap (λ (k : ℕ). links_of k parent so.at) (left_none h))
      where
        left_none : 64 ≤ count → 64 - count ≡ 0
        left_none h = omega arith

    pub one_more : (up.number ≡ 0 → ⊥) → count < 64 → (next : Name) → next ≡ parent up → Counted n (count + 1) next
    one_more z low next e = record {
      low = omega arith;
      at = up;
      parent_of = e;
      links =
          so.links
          ∙ ap (λ (k : ℕ). count + k)
          (ap (λ (k : ℕ). links_of k parent so.at) less
          ∙ links_next parent (64 - (count + 1)) so.at (ap is_none (sym so.parent_of) ∙ ne_eqb up.number 0 z)
          ∙ ap (λ (m : Name). suc (links_of (64 - (count + 1)) parent m)) (sym so.parent_of))
          ∙ omega arith;
    }
      where
        less : 64 - count ≡ suc (64 - (count + 1))
        less = omega arith
