-- A walk up from an entry reaches x exactly if the entry is x or its parent reaches x. So places that have x, and whatever is directly
-- below one of them, have all that is at or below x.
use Prim.Native.Nat.{ℕ, zero, suc, ◌<◌}
use native.Mathlib.Omega.{arith}
use mathlib.Core.Path.{◌≡◌, refl, sym, ap, ◌∙◌}
use mathlib.Core.Logic.{◌⊎◌, inl, inr}
use mathlib.Core.Bool.{Bool, true, false}
use mathlib.Core.List.{List, map}
use lib.ListN.{length, length-map}
use lib.Seq.{ext_get_or}
use Rattle.lists.specs.Lists.{first_index}
use Rattle.lists.proofs.Tests.{Case, pass, fail, case, no_true, or_right}
use Rattle.lists.proofs.Keyed.{found_low, found_key, found_at, dropped_at}
use Rattle.tables.specs.declared.{Name.Name, Entry.Entry}
use Rattle.tables.specs.Names.{eq_name, is_none, no_entry}
use Rattle.tables.specs.Lookup.{is_named, entry_in}
use Rattle.tables.specs.Chains.{reaches, end_of, entry_parent}
use Rattle.tables.specs.Change.{drop_entry}
use Rattle.tables.proofs.NameLaws.{eq_name_true}
use Rattle.tables.proofs.Keys.{entry_keys, entry_laws}
use Rattle.tables.proofs.ByPlace.{at}
use Rattle.tables.proofs.Links.{reaches_next, end_next}
use Rattle.op_drop_entries.specs.Links.{directly_below, LinkedEntries}
use Rattle.op_drop_entries.proofs.DirectlyBelow.{below_live, below_linked, below_parent, below_intro}

-- ---- walks
module _ (parent : Name → Name) (x : Name) where
  -- what is reached is n itself, or is reached from its parent
  reaches_how : (left : ℕ) (n : Name) → reaches (suc left) parent n x ≡ true
      → (n ≡ x) ⊎ ((is_none (parent n) ≡ false) × (reaches left parent (parent n) x ≡ true))
  unfolding reaches
  reaches_how left n h = go (case (eq_name n x)) (case (is_none (parent n)))
    where
      go : Case (eq_name n x) → Case (is_none (parent n)) → (n ≡ x) ⊎ ((is_none (parent n) ≡ false) × (reaches left parent (parent n) x ≡ true))
      go (pass e) _ = inl (eq_name_true n x e)
      go (fail e) (pass z) = no_true (rw (e, z) at h)
      go (fail e) (fail z) = inr (z, rw (e, z) at h)

  -- a walk that ends reaches no more with more places left
  reaches_more : (left : ℕ) (n : Name) → is_none (end_of left parent n) ≡ false → reaches left parent n x ≡ reaches (suc left) parent n x
  unfolding reaches end_of
  reaches_more zero n e = no_true (sym e)
  reaches_more (suc left) n e = go (case (is_none (parent n))) (reaches_more left (parent n))
    where
      go : Case (is_none (parent n)) → (is_none (end_of left parent (parent n)) ≡ false → reaches left parent (parent n) x ≡ reaches (suc left) parent (parent n) x)
          → reaches (suc left) parent n x ≡ reaches (suc (suc left)) parent n x
      go (pass z) ih = rw z
      go (fail z) ih = let r : reaches left parent (parent n) x ≡ reaches (suc left) parent (parent n) x = ih (rw z at e) in rw (z, r)

  -- so it reaches what its parent's walk reaches
  pub reaches_up : (left : ℕ) (n : Name) → is_none (end_of (suc left) parent n) ≡ false → is_none (parent n) ≡ false → reaches (suc left) parent (parent n) x ≡ true
      → reaches (suc left) parent n x ≡ true
  reaches_up left n e z h =
      reaches_next parent x left n z
      ∙ or_right (eq_name n x) (reaches_more left (parent n) (ap is_none (sym (end_next parent left n z)) ∙ e) ∙ h)

-- ---- entries by name
place : List Entry → Name → ℕ
place es n = first_index (is_named n) es

by_place : (es : List Entry) (n : Name) → entry_in es n ≡ at es (place es n)
unfolding entry_in place
by_place es n = refl

place_low_lem : (es : List Entry) (n : Name) → (entry_in es n).live ≡ true → place es n < length es
unfolding entry_in is_named place
place_low_lem es n l = found_low entry_keys entry_laws es n l

pub named : (es : List Entry) (n : Name) → (entry_in es n).live ≡ true → (entry_in es n).name ≡ n
unfolding entry_in is_named
named es n l = found_key entry_keys entry_laws es n l

-- the entry named n is at or below x
abbrev pub under : List Entry → Name → Name → Bool
under es x n = reaches 256 (entry_parent (entry_in es)) n x

-- the entries without x and all below it
unfoldable pub without_below : List Entry → Name → List Entry
without_below es x = map (drop_entry (under es x)) es

module _ (es : List Entry) (ok : LinkedEntries es) where
  pub at_name : (i : ℕ) → i < length es → (at es i).live ≡ true → entry_in es (at es i).name ≡ at es i
  unfolding entry_in is_named
  at_name i b l = found_at entry_keys entry_laws es ok.distinct i b l

  -- an entry directly below one that is at or below x is below x
  pub under_up : (x : Name) (i : ℕ) (n : Name) → i < length es → directly_below n (at es i) ≡ true → under es x n ≡ true → under es x (at es i).name ≡ true
  under_up x i n b d h =
      let l : (at es i).live ≡ true = below_live n (at es i) d in
      let e : entry_in es (at es i).name ≡ at es i = at_name i b l in
      let z : is_none (entry_in es (at es i).name).parent ≡ false = ap (λ (y : Entry). is_none y.parent) e ∙ below_linked n (at es i) d in
      let p : (entry_in es (at es i).name).parent ≡ n = ap (λ (y : Entry). y.parent) e ∙ below_parent n (at es i) d in
      reaches_up (entry_parent (entry_in es)) x 255 (at es i).name (ok.ends (at es i).name (ap (λ (y : Entry). y.live) e ∙ l)) z
      (ap (λ (m : Name). under es x m) p ∙ h)

  -- places that have x, and whatever is directly below one of them, have all that is at or below x
  module _ (x : Name) (Gone : ℕ → Type 0) (root : (i : ℕ) → i < length es → (at es i).live ≡ true → (at es i).name ≡ x → Gone i)
      (closed : (i j : ℕ) → i < length es → j < length es → directly_below (at es j).name (at es i) ≡ true → Gone j → Gone i) where
    pub all_under : (left : ℕ) (i : ℕ) → i < length es → (at es i).live ≡ true → reaches left (entry_parent (entry_in es)) (at es i).name x ≡ true → Gone i
    unfolding reaches
    all_under zero i b l h = no_true h
    all_under (suc left) i b l h = go (reaches_how (entry_parent (entry_in es)) x left (at es i).name h) (all_under left)
      where
        e : entry_in es (at es i).name ≡ at es i
        e = at_name i b l

        go : ((at es i).name ≡ x) ⊎ ((is_none (entry_in es (at es i).name).parent ≡ false) × (reaches left (entry_parent (entry_in es)) (entry_in es (at es i).name).parent x ≡ true))
            → ((j : ℕ) → j < length es → (at es j).live ≡ true → reaches left (entry_parent (entry_in es)) (at es j).name x ≡ true → Gone j) → Gone i
        go (inl q) ih = root i b l q
        go (inr p) ih =
            let m : Name = (entry_in es (at es i).name).parent in
            let lm : (entry_in es m).live ≡ true = ok.parent (at es i).name (ap (λ (y : Entry). y.live) e ∙ l) p.0 in
            let bm : place es m < length es = place_low_lem es m lm in
            let q : (at es (place es m)).name ≡ m = ap (λ (y : Entry). y.name) (sym (by_place es m)) ∙ named es m lm in
            let w : (at es i).parent ≡ (at es (place es m)).name = ap (λ (y : Entry). y.parent) (sym e) ∙ sym q in
            let z : is_none (at es i).parent ≡ false = ap (λ (y : Entry). is_none y.parent) (sym e) ∙ p.0 in
            closed i (place es m) b bm (below_intro (at es (place es m)).name (at es i) l z w)
            (ih (place es m) bm (ap (λ (y : Entry). y.live) (sym (by_place es m)) ∙ lm)
            (ap (λ (k : Name). reaches left (entry_parent (entry_in es)) k x) q ∙ p.1))

-- ---- entries dropped, place by place
pub dropped_by_places : (es us : List Entry) (gone : Name → Bool) → length us ≡ length es → ((i : ℕ) → i < length es → at us i ≡ drop_entry gone (at es i))
    → us ≡ map (drop_entry gone) es
unfolding drop_entry
dropped_by_places es us gone e h =
    ext_get_or no_entry us (map (drop_entry gone) es) (e ∙ sym (length-map es (drop_entry gone)))
    (λ i b. h i (omega arith) ∙ sym (dropped_at entry_keys entry_laws gone es i))
