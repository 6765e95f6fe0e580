-- Walks along chains of parents, on a pad or in the dock: over any map from a name to its parent's. Any number of places left that is
-- enough is as good as any other, and then a walk satisfies its own equation, link by link. A chain has fewer links than the places that
-- its names lie in.
use Prim.Native.Nat.{ℕ, zero, suc, ◌≤◌, ◌<◌}
use native.Mathlib.Omega.{arith}
use native.Mathlib.Nat.{not-suc-le-zero, le_of_suc-le-suc}
use mathlib.Core.Path.{◌≡◌, refl, sym, ap, ◌∙◌, subst}
use mathlib.Core.Bool.{Bool, false, ◌||◌, cond}
use lib.Dec.{eqb}
use borrow.Author.Tests.{eqb-true, eqb-false}
use Rattle.lists.proofs.Tests.{Case, pass, fail, case, contradiction}
use Rattle.lists.proofs.Pigeonhole.{pigeonhole}
use Rattle.tables.specs.declared.Name.{Name}
use Rattle.tables.specs.Names.{eq_name, no_name, is_none}
use Rattle.tables.specs.Chains.{reaches, end_of, links_of}
use Rattle.tables.proofs.Links.{reaches_here, reaches_next, end_here, end_next, links_here, links_next}
use Rattle.preservation.specs.Rules.{Ends, here, up}

module _ (parent : Name → Name) where
  module _ (x : Name) where
    reaches_enough : {n : Name} {d : ℕ} → Ends parent n d → (f g : ℕ) → d < f → d < g → reaches f parent n x ≡ reaches g parent n x
    reaches_enough (here e) zero g a b = absurd (not-suc-le-zero a)
    reaches_enough (here e) (suc f) zero a b = absurd (not-suc-le-zero b)
    reaches_enough {n} (here e) (suc f) (suc g) a b = reaches_here parent x f n e ∙ sym (reaches_here parent x g n e)
    reaches_enough (up e r) zero g a b = absurd (not-suc-le-zero a)
    reaches_enough (up e r) (suc f) zero a b = absurd (not-suc-le-zero b)
    reaches_enough {n} (up e r) (suc f) (suc g) a b =
        reaches_next parent x f n e ∙ ap (λ (y : Bool). eq_name n x || y) (reaches_enough r f g (le_of_suc-le-suc a) (le_of_suc-le-suc b))
        ∙ sym (reaches_next parent x g n e)

    -- with places to spare the walk from n is the walk from its parent
    pub reaches_up : {n : Name} {d : ℕ} → Ends parent n d → is_none (parent n) ≡ false → (left : ℕ) → d < left
        → reaches left parent n x ≡ (eq_name n x || reaches left parent (parent n) x)
    reaches_up (here e) q left a = contradiction e q
    reaches_up (up e r) q zero a = absurd (not-suc-le-zero a)
    reaches_up {n} (up e r) q (suc left) a =
        reaches_next parent x left n e ∙ ap (λ (y : Bool). eq_name n x || y) (reaches_enough r left (suc left) (le_of_suc-le-suc a) (omega arith))

  -- the links counted are the links that there are
  pub links_are : {n : Name} {d : ℕ} → Ends parent n d → (left : ℕ) → d < left → links_of left parent n ≡ d
  links_are {n} (here e) left b = links_here parent left n e
  links_are (up e r) zero b = absurd (not-suc-le-zero b)
  links_are {n} (up e r) (suc left) b = links_next parent left n e ∙ ap suc (links_are r left (le_of_suc-le-suc b))

  -- a walk that ends well has come to the end of the chain, and with places to spare every walk does
  pub ends_of : (good : Name → Type 0) → (good no_name → ⊥) → (left : ℕ) (n : Name) → good (end_of left parent n) → (d : ℕ) × Ends parent n d
  unfolding end_of
  ends_of good never zero n h = absurd (never h)
  ends_of good never (suc left) n h = go (case (is_none (parent n))) (ends_of good never left (parent n))
    where
      go : Case (is_none (parent n)) → (good (end_of left parent (parent n)) → (d : ℕ) × Ends parent (parent n) d) → (d : ℕ) × Ends parent n d
      go (pass e) ih = (0, here {n = n} e)
      go (fail e) ih = let p = ih (rw e at h) in (suc p.0, up {n = n} {d = p.0} e p.1)

  pub end_good : (good : Name → Type 0) → ((n : Name) → good n → is_none (parent n) ≡ false → good (parent n))
      → {n : Name} {d : ℕ} → Ends parent n d → (left : ℕ) → d < left → good n → good (end_of left parent n)
  end_good good climbs (here e) zero b h = absurd (not-suc-le-zero b)
  end_good good climbs (up e r) zero b h = absurd (not-suc-le-zero b)
  end_good good climbs {n} (here e) (suc left) b h = subst good (sym (end_here parent left n e)) h
  end_good good climbs {n} (up e r) (suc left) b h =
      subst good (sym (end_next parent left n e)) (end_good good climbs r left (le_of_suc-le-suc b) (climbs n h e))

  -- ---- the names on a chain
  pub ends_unique : {n : Name} {d e : ℕ} → Ends parent n d → Ends parent n e → d ≡ e
  ends_unique (here h) (here k) = refl
  ends_unique (here h) (up k r) = contradiction h k
  ends_unique (up h r) (here k) = contradiction k h
  ends_unique (up h r) (up k s) = ap suc (ends_unique r s)

  -- the name that is i links from the chain's end
  pub link : {n : Name} {d : ℕ} → Ends parent n d → ℕ → Name
  link {n} (here e) i = n
  link {n} (up {d = d} e r) i = cond (eqb i (suc d)) n (link r i)

  pub link_ends : {n : Name} {d : ℕ} (r : Ends parent n d) (i : ℕ) → i ≤ d → Ends parent (link r i) i
  unfolding link
  link_ends (here e) i b = let z : i ≡ 0 = omega arith in rw z (here e)
  link_ends {n} (up {d = d} e r) i b = go (case (eqb i (suc d))) (link_ends r i)
    where
      go : Case (eqb i (suc d)) → (i ≤ d → Ends parent (link r i) i) → Ends parent (cond (eqb i (suc d)) n (link r i)) i
      go (pass q) ih = rw q (rw (eqb-true i (suc d) q) (up e r))
      go (fail q) ih = let z : i ≡ suc d → ⊥ = eqb-false i (suc d) q in rw q (ih (omega arith))

  -- what passes from a name to its parent's holds all along the chain
  pub link_good : (good : Name → Type 0) → ((n : Name) → good n → is_none (parent n) ≡ false → good (parent n))
      → {n : Name} {d : ℕ} (r : Ends parent n d) → good n → (i : ℕ) → good (link r i)
  unfolding link
  link_good good climbs (here e) h i = h
  link_good good climbs {n} (up {d = d} e r) h i = go (case (eqb i (suc d))) (link_good good climbs r (climbs n h e) i)
    where
      go : Case (eqb i (suc d)) → good (link r i) → good (cond (eqb i (suc d)) n (link r i))
      go (pass q) ih = rw q h
      go (fail q) ih = rw q ih

  -- a chain whose names lie in different ones of m places has fewer than m links
  pub chain_length : (good : Name → Type 0) (place : Name → ℕ) (m : ℕ)
      → ((n : Name) → good n → is_none (parent n) ≡ false → good (parent n))
      → ((n : Name) → good n → place n < m) → ((n k : Name) → good n → good k → place n ≡ place k → n ≡ k)
      → {n : Name} {d : ℕ} → good n → Ends parent n d → d < m
  chain_length good place m climbs low once {n} {d} h r =
      pigeonhole m (suc d) (λ i. place (link r i)) (λ i b. low (link r i) (ok i))
      (λ i j b c e.
      ends_unique (subst (λ (x : Name). Ends parent x i) (once (link r i) (link r j) (ok i) (ok j) e) (link_ends r i (le_of_suc-le-suc b)))
      (link_ends r j (le_of_suc-le-suc c)))
    where
      ok : (i : ℕ) → good (link r i)
      ok = link_good good climbs r h

-- the chain in another map that has the same parents along it
pub ends_kept : {parent parent' : Name → Name} (good : Name → Type 0) → ((n : Name) → good n → is_none (parent n) ≡ false → good (parent n))
    → ((n : Name) → good n → parent' n ≡ parent n) → {n : Name} {d : ℕ} → good n → Ends parent n d → Ends parent' n d
ends_kept good climbs same {n} h (here e) = here {n = n} (rw (same n h) e)
ends_kept good climbs same {n} h (up {d = d} e r) = up {n = n} {d = d} (rw (same n h) e) (rw (same n h) (ends_kept good climbs same (climbs n h e) r))
