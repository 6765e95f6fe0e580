-- Chains in tables in order: `at_or_under` and `at_or_below` link by link, the head of a grant's chain is its dock name, and a grant lies within
-- the entry of its dock name.
use Prim.Native.Nat.{ℕ, zero, suc, ◌+◌, ◌≤◌, ◌<◌}
use native.Mathlib.Omega.{arith}
use native.Mathlib.Nat.{not-suc-le-zero, le_of_suc-le-suc}
use mathlib.Core.Path.{◌≡◌, sym, ap, ◌∙◌, subst}
use mathlib.Core.Logic.{◌⊎◌, inl, inr}
use mathlib.Core.Bool.{true, false, ◌||◌}
use Rattle.lists.proofs.Tests.{contradiction, or_right}
use Rattle.tables.specs.declared.{Name.Name, Tables.Tables}
use Rattle.tables.specs.Names.{eq_name, is_none}
use Rattle.tables.specs.Lookup.{last_of, lookup, entry_of}
use Rattle.tables.specs.Chains.{end_of, own_name, parent_of, at_or_under, chain_head, entry_parent, at_or_below}
use Rattle.tables.specs.Order.{under_store}
use Rattle.tables.proofs.KindLaws.{live_grant, live_child, live_recall, head_grant, child_head, recall_head, head_up, has_parent_lem, grant_sort, live_head}
use Rattle.tables.proofs.NameLaws.{eq_name_false}
use Rattle.tables.proofs.Links.{reaches_here, end_here, end_next}
use Rattle.preservation.specs.Rules.{Span, Inside, Contains, EntryOk, Ends, here, up}
use Rattle.preservation.specs.InOrder.{InOrder}
use Rattle.preservation.proofs.SheetTests.{inside_refl, inside_trans}
use Rattle.preservation.proofs.Walks.{reaches_up}
use Rattle.preservation.proofs.RuleFacts.{entry_head, child_up, recall_up, child_linked, recall_linked, ticket_chain, live_named}
use Rattle.preservation.proofs.Places.{chain_short, entry_chain_short}
use Rattle.tables.specs.Kinds.{is_live, is_grant, is_head, is_child, is_recall}

module _ (t : Tables) (ok : InOrder t) where
  pub has_chain : (n : Name) → is_live (lookup t n).kind ≡ true → (d : ℕ) × Ends (parent_of (lookup t)) n d
  has_chain = ticket_chain (lookup t) (entry_of t) (last_of t) ok.rules

  pub entry_grant : (n : Name) → (entry_of t n).live ≡ true → is_head (lookup t n).kind ≡ true
  entry_grant n l = entry_head (ok.rules.entry n l)

  -- ---- link by link
  module _ (x : Name) where
    pub at_head : (n : Name) → is_head (lookup t n).kind ≡ true → at_or_under t x n ≡ eq_name n x
    at_head n h = reaches_here (parent_of (lookup t)) x 63 n (head_up (lookup t n).kind n (lookup t n) h)

    under_up : (n : Name) → is_live (lookup t n).kind ≡ true → is_none (parent_of (lookup t) n) ≡ false
        → at_or_under t x n ≡ (eq_name n x || at_or_under t x (parent_of (lookup t) n))
    under_up n l z = let c = has_chain n l in reaches_up (parent_of (lookup t)) x c.1 z 64 (chain_short t ok l c.1)

    pub child_step : (n : Name) → is_child (lookup t n).kind ≡ true → at_or_under t x n ≡ (eq_name n x || at_or_under t x (lookup t n).other)
    child_step n c =
        under_up n (live_child (lookup t n).kind c) (child_linked (lookup t) (entry_of t) (last_of t) ok.rules n c)
        ∙ ap (λ (m : Name). eq_name n x || at_or_under t x m) (child_up (lookup t) (entry_of t) (last_of t) ok.rules n c)

    pub recall_step : (n : Name) → is_recall (lookup t n).kind ≡ true → at_or_under t x n ≡ (eq_name n x || at_or_under t x (own_name n (lookup t n)))
    recall_step n c =
        under_up n (live_recall (lookup t n).kind c) (recall_linked (lookup t) (entry_of t) (last_of t) ok.rules n c)
        ∙ ap (λ (m : Name). eq_name n x || at_or_under t x m) (recall_up (lookup t) (entry_of t) (last_of t) ok.rules n c)

    -- what is under something under x is under x
    pub falls : (n : Name) → is_none (parent_of (lookup t) n) ≡ false → at_or_under t x (parent_of (lookup t) n) ≡ true → at_or_under t x n ≡ true
    falls n z e = go (has_parent_lem (lookup t n).kind n (lookup t n) z)
      where
        go : (is_child (lookup t n).kind ≡ true) ⊎ (is_recall (lookup t n).kind ≡ true) → at_or_under t x n ≡ true
        go (inl c) = under_up n (live_child (lookup t n).kind c) z ∙ or_right (eq_name n x) e
        go (inr c) = under_up n (live_recall (lookup t n).kind c) z ∙ or_right (eq_name n x) e

    pub at_root : (n : Name) → under_store (entry_of t n) ≡ true → at_or_below t x n ≡ eq_name n x
    at_root n z = reaches_here (entry_parent (entry_of t)) x 255 n z

    pub entry_falls : (n : Name) → (entry_of t n).live ≡ true → under_store (entry_of t n) ≡ false → at_or_below t x (entry_of t n).parent ≡ true → at_or_below t x n ≡ true
    entry_falls n l z e =
        let c = ok.rules.entry_chain n l in
        reaches_up (entry_parent (entry_of t)) x c.1 z 256 (entry_chain_short t ok l c.1) ∙ or_right (eq_name n x) e

    -- a recall and its child on the pad have one parent, so a head has both under it or neither
    pub target_step : (r : Name) → is_recall (lookup t r).kind ≡ true → (lookup t r).other.pad ≡ r.pad
        → at_or_under t x (lookup t r).other ≡ (eq_name (lookup t r).other x || at_or_under t x (own_name r (lookup t r)))
    target_step r h p =
        let c = ok.rules.near r h p in
        child_step (lookup t r).other c.child ∙ ap (λ (m : Name). eq_name (lookup t r).other x || at_or_under t x m) c.parent

    pub pair_head : is_head (lookup t x).kind ≡ true → (r : Name) → is_recall (lookup t r).kind ≡ true → (lookup t r).other.pad ≡ r.pad
        → at_or_under t x (lookup t r).other ≡ at_or_under t x r
    pair_head hx r h p =
        let a : eq_name (lookup t r).other x ≡ false
        = eq_name_false (lookup t r).other x (λ e. child_head (lookup t (lookup t r).other).kind (ok.rules.near r h p).child (rw e hx)) in
        let b : eq_name r x ≡ false = eq_name_false r x (λ e. recall_head (lookup t r).kind h (rw e hx)) in
        target_step r h p ∙ rw a (sym (recall_step r h ∙ rw b))

  -- ---- the head of a grant's chain
  -- a grant heads its chain, or its parent's dock name is its own and what lies within the parent it lies in
  data Chained (n : Name) : Type 0 where
    heads : is_head (lookup t n).kind ≡ true → Chained n
    hangs : is_child (lookup t n).kind ≡ true → is_grant (lookup t (parent_of (lookup t) n)).kind ≡ true
        → (lookup t n).dock ≡ (lookup t (parent_of (lookup t) n)).dock → Contains (lookup t n) (lookup t (parent_of (lookup t) n)) → Chained n

  chained : (n : Name) → is_grant (lookup t n).kind ≡ true → Chained n
  chained n g = go (grant_sort (lookup t n).kind g)
    where
      go : (is_head (lookup t n).kind ≡ true) ⊎ (is_child (lookup t n).kind ≡ true) → Chained n
      go (inl h) = heads h
      go (inr c) =
          let p = child_up (lookup t) (entry_of t) (last_of t) ok.rules n c in
          let k = ok.rules.child n c in
          hangs c (rw p k.grant) (k.dock ∙ ap (λ (m : Name). (lookup t m).dock) (sym p)) (subst (λ (m : Name). Contains (lookup t n) (lookup t m)) (sym p) k.inside)

  record Headed (n : Name) (f : ℕ) : Type 0 where
    head : end_of f (parent_of (lookup t)) n ≡ (lookup t n).dock
    grant : is_head (lookup t (lookup t n).dock).kind ≡ true
    inside : Contains (lookup t n) (lookup t (lookup t n).dock)

  headed : {n : Name} {d : ℕ} → Ends (parent_of (lookup t)) n d → is_grant (lookup t n).kind ≡ true → (f : ℕ) → d < f → Headed n f
  headed (here z) g zero b = absurd (not-suc-le-zero b)
  headed (up z r) g zero b = absurd (not-suc-le-zero b)
  headed {n} (here z) g (suc f) b = go (chained n g)
    where
      go : Chained n → Headed n (suc f)
      go (heads h) =
          let q : (lookup t n).dock ≡ n = ok.rules.dock n h in
          record {
            head = end_here (parent_of (lookup t)) f n z ∙ sym q;
            grant = rw q h;
            inside = rw q (inside_refl (lookup t n).first (lookup t n).count (lookup t n).rights);
          }
      go (hangs c p e i) = contradiction z (child_linked (lookup t) (entry_of t) (last_of t) ok.rules n c)
  headed {n} (up z r) g (suc f) b = go (chained n g) (λ p. headed r p f (le_of_suc-le-suc b))
    where
      go : Chained n → (is_grant (lookup t (parent_of (lookup t) n)).kind ≡ true → Headed (parent_of (lookup t) n) f) → Headed n (suc f)
      go (heads h) ih = contradiction (head_up (lookup t n).kind n (lookup t n) h) z
      go (hangs c p e i) ih =
          let above = ih p in
          record {
            head = end_next (parent_of (lookup t)) f n z ∙ above.head ∙ sym e;
            grant = rw e above.grant;
            inside = subst (λ (m : Name). Contains (lookup t n) (lookup t m)) (sym e) (inside_trans i above.inside);
          }

  module _ (n : Name) (g : is_grant (lookup t n).kind ≡ true) where
    own_head : Headed n 64
    own_head =
        let l = live_grant (lookup t n).kind g in
        let c = has_chain n l in
        headed c.1 g 64 (chain_short t ok l c.1)

    -- the head of a grant's chain is its dock name, which is a taken or received grant
    pub head_is_dock : chain_head t n ≡ (lookup t n).dock
    head_is_dock = own_head.head

    pub dock_head : is_head (lookup t (lookup t n).dock).kind ≡ true
    dock_head = own_head.grant

    pub dock_live : is_live (lookup t (lookup t n).dock).kind ≡ true
    dock_live = live_head (lookup t (lookup t n).dock).kind dock_head

    pub dock_named : is_none (lookup t n).dock ≡ false
    dock_named = live_named (lookup t) (entry_of t) (last_of t) ok.rules (lookup t n).dock dock_live

    -- its sheets and rights lie within the entry of its dock name, where that is live
    pub within_entry : (entry_of t (lookup t n).dock).live ≡ true
        → Inside (lookup t n).first (lookup t n).count (lookup t n).rights
        (entry_of t (lookup t n).dock).first (entry_of t (lookup t n).dock).count (entry_of t (lookup t n).dock).rights
    within_entry l =
        let o : EntryOk (entry_of t (lookup t n).dock) (lookup t (lookup t n).dock) = ok.rules.entry (lookup t n).dock l in
        rw (o.first, o.count, o.rights) at own_head.inside

  -- an entry's sheets are sheets of the store
  pub entry_fits_lem : (n : Name) → (entry_of t n).live ≡ true → (entry_of t n).first + (entry_of t n).count ≤ 256
  entry_fits_lem n l =
      let o : EntryOk (entry_of t n) (lookup t n) = ok.rules.entry n l in
      let s : Span (lookup t n).first (lookup t n).count (lookup t n).rights = ok.rules.span n (head_grant (lookup t n).kind (entry_head o)) in
      omega (arith, s.fits, o.first, o.count)
