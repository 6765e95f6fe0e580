-- A walk along a chain of parents, one link at a time: over any map from a name to its parent's, on a pad or in the dock. Walks along two
-- maps are the same where the maps agree along the chain.
use Prim.Native.Nat.{ℕ, zero, suc}
use mathlib.Core.Path.{◌≡◌, refl, sym, ap, ◌∙◌}
use mathlib.Core.Bool.{Bool, true, false, ◌||◌, or-false}
use Rattle.lists.proofs.Tests.{Case, pass, fail, case}
use Rattle.tables.specs.declared.Name.{Name}
use Rattle.tables.specs.Names.{eq_name, is_none}
use Rattle.tables.specs.Chains.{reaches, end_of, links_of}

module _ (parent : Name → Name) where
  module _ (x : Name) where
    pub reaches_here : (left : ℕ) (n : Name) → is_none (parent n) ≡ true → reaches (suc left) parent n x ≡ eq_name n x
    unfolding reaches
    reaches_here left n e = rw e (or-false (eq_name n x))

    pub reaches_next : (left : ℕ) (n : Name) → is_none (parent n) ≡ false → reaches (suc left) parent n x ≡ (eq_name n x || reaches left parent (parent n) x)
    unfolding reaches
    reaches_next left n e = rw e

  pub end_here : (left : ℕ) (n : Name) → is_none (parent n) ≡ true → end_of (suc left) parent n ≡ n
  unfolding end_of
  end_here left n e = rw e

  pub end_next : (left : ℕ) (n : Name) → is_none (parent n) ≡ false → end_of (suc left) parent n ≡ end_of left parent (parent n)
  unfolding end_of
  end_next left n e = rw e

  pub links_here : (left : ℕ) (n : Name) → is_none (parent n) ≡ true → links_of left parent n ≡ 0
  unfolding links_of
  links_here zero n e = refl
  links_here (suc left) n e = rw e

  pub links_next : (left : ℕ) (n : Name) → is_none (parent n) ≡ false → links_of (suc left) parent n ≡ suc (links_of left parent (parent n))
  unfolding links_of
  links_next left n e = rw e

-- ---- two maps of parents, which agree along the chains of the good names
module _ (p q : Name → Name) (good : Name → Type 0) (ends : (n : Name) → good n → is_none (p n) ≡ is_none (q n))
    (links : (n : Name) → good n → is_none (p n) ≡ false → (p n ≡ q n) × good (p n)) where
  pub reaches_same : (x : Name) (left : ℕ) (n : Name) → good n → reaches left p n x ≡ reaches left q n x
  unfolding reaches
  reaches_same x zero n h = refl
  reaches_same x (suc left) n h = go (case (is_none (p n))) (reaches_same x left (p n))
    where
      go : Case (is_none (p n)) → (good (p n) → reaches left p (p n) x ≡ reaches left q (p n) x) → reaches (suc left) p n x ≡ reaches (suc left) q n x
      go (pass e) ih = reaches_here p x left n e ∙ sym (reaches_here q x left n (sym (ends n h) ∙ e))
      go (fail e) ih =
          let l = links n h e in
          reaches_next p x left n e ∙ ap (λ (b : Bool). eq_name n x || b) (ih l.1 ∙ ap (λ (m : Name). reaches left q m x) l.0)
          ∙ sym (reaches_next q x left n (sym (ends n h) ∙ e))

  pub end_same : (left : ℕ) (n : Name) → good n → end_of left p n ≡ end_of left q n
  unfolding end_of
  end_same zero n h = refl
  end_same (suc left) n h = go (case (is_none (p n))) (end_same left (p n))
    where
      go : Case (is_none (p n)) → (good (p n) → end_of left p (p n) ≡ end_of left q (p n)) → end_of (suc left) p n ≡ end_of (suc left) q n
      go (pass e) ih = end_here p left n e ∙ sym (end_here q left n (sym (ends n h) ∙ e))
      go (fail e) ih =
          let l = links n h e in
          end_next p left n e ∙ ih l.1 ∙ ap (end_of left q) l.0 ∙ sym (end_next q left n (sym (ends n h) ∙ e))

  pub links_same : (left : ℕ) (n : Name) → good n → links_of left p n ≡ links_of left q n
  unfolding links_of
  links_same zero n h = refl
  links_same (suc left) n h = go (case (is_none (p n))) (links_same left (p n))
    where
      go : Case (is_none (p n)) → (good (p n) → links_of left p (p n) ≡ links_of left q (p n)) → links_of (suc left) p n ≡ links_of (suc left) q n
      go (pass e) ih = links_here p (suc left) n e ∙ sym (links_here q (suc left) n (sym (ends n h) ∙ e))
      go (fail e) ih =
          let l = links n h e in
          links_next p left n e ∙ ap suc (ih l.1 ∙ ap (links_of left q) l.0) ∙ sym (links_next q left n (sym (ends n h) ∙ e))
