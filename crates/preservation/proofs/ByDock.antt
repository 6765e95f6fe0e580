-- What is under the head of a chain, told by dock names: a grant whose dock name is the head's, and a recall whose grant is one.
use Prim.Native.Nat.{ℕ}
use mathlib.Core.Path.{◌≡◌, sym, ap, subst, ◌∙◌}
use mathlib.Core.Logic.{◌⊎◌, inl, inr}
use mathlib.Core.Bool.{true, false}
use Rattle.lists.proofs.Tests.{contradiction}
use Rattle.tables.specs.declared.{Name.Name, Tables.Tables}
use Rattle.tables.specs.Kinds.{is_grant, is_head, is_child, is_recall}
use Rattle.tables.specs.Names.{eq_name}
use Rattle.tables.specs.Lookup.{last_of, lookup, entry_of}
use Rattle.tables.specs.Chains.{own_name, parent_of, at_or_under}
use Rattle.tables.proofs.KindLaws.{live_grant, child_head, recall_head, grant_sort}
use Rattle.tables.proofs.NameLaws.{eq_name_false}
use Rattle.preservation.specs.Rules.{Ends, here, up}
use Rattle.preservation.specs.InOrder.{InOrder}
use Rattle.preservation.proofs.RuleFacts.{child_up, child_linked}
use Rattle.preservation.proofs.ChainSteps.{has_chain, at_head, child_step, recall_step}

module _ (t : Tables) (ok : InOrder t) where
  module _ (h : Name) (is : is_head (lookup t h).kind ≡ true) where
    record ByDock (n : Name) : Type 0 where
      under : at_or_under t h n ≡ eq_name (lookup t n).dock h
      pad : (lookup t n).dock.pad ≡ n.pad

    at_the_head : (n : Name) → is_head (lookup t n).kind ≡ true → ByDock n
    at_the_head n k =
        let own : (lookup t n).dock ≡ n = ok.rules.dock n k in
        record { under = at_head t ok h n k ∙ ap (λ (m : Name). eq_name m h) (sym own); pad = ap (λ (m : Name). m.pad) own }

    at_a_child : (n : Name) → is_child (lookup t n).kind ≡ true → ByDock (parent_of (lookup t) n) → ByDock n
    at_a_child n c b =
        let up : parent_of (lookup t) n ≡ (lookup t n).other = child_up (lookup t) (entry_of t) (last_of t) ok.rules n c in
        let k = ok.rules.child n c in
        let beside : eq_name n h ≡ false = eq_name_false n h (λ e. child_head (lookup t n).kind c (rw e is)) in
        let above : ByDock (lookup t n).other = subst ByDock up b in
        record {
          under = child_step t ok h n c ∙ rw beside (above.under ∙ ap (λ (m : Name). eq_name m h) (sym k.dock));
          pad = ap (λ (m : Name). m.pad) k.dock ∙ above.pad ∙ k.pad;
        }

    by_dock : {n : Name} {d : ℕ} → Ends (parent_of (lookup t)) n d → is_grant (lookup t n).kind ≡ true → ByDock n
    by_dock {n} (here z) g = go (grant_sort (lookup t n).kind g)
      where
        go : (is_head (lookup t n).kind ≡ true) ⊎ (is_child (lookup t n).kind ≡ true) → ByDock n
        go (inl k) = at_the_head n k
        go (inr c) = contradiction z (child_linked (lookup t) (entry_of t) (last_of t) ok.rules n c)
    by_dock {n} (up z r) g = go (grant_sort (lookup t n).kind g) (λ p. by_dock r p)
      where
        go : (is_head (lookup t n).kind ≡ true) ⊎ (is_child (lookup t n).kind ≡ true)
            → (is_grant (lookup t (parent_of (lookup t) n)).kind ≡ true → ByDock (parent_of (lookup t) n)) → ByDock n
        go (inl k) ih = at_the_head n k
        go (inr c) ih =
            let up = child_up (lookup t) (entry_of t) (last_of t) ok.rules n c in
            at_a_child n c (ih (rw up (ok.rules.child n c).grant))

    told : (n : Name) → is_grant (lookup t n).kind ≡ true → ByDock n
    told n g = by_dock (has_chain t ok n (live_grant (lookup t n).kind g)).1 g

    pub grant_by_dock : (n : Name) → is_grant (lookup t n).kind ≡ true → at_or_under t h n ≡ eq_name (lookup t n).dock h
    grant_by_dock n g = (told n g).under

    -- the dock name of a grant is of its pad
    pub dock_pad : (n : Name) → is_grant (lookup t n).kind ≡ true → (lookup t n).dock.pad ≡ n.pad
    dock_pad n g = (told n g).pad

    pub recall_by_dock : (n : Name) → is_recall (lookup t n).kind ≡ true → at_or_under t h n ≡ eq_name (lookup t (own_name n (lookup t n))).dock h
    recall_by_dock n r =
        let beside : eq_name n h ≡ false = eq_name_false n h (λ e. recall_head (lookup t n).kind r (rw e is)) in
        recall_step t ok h n r ∙ rw beside (grant_by_dock (own_name n (lookup t n)) (ok.rules.recall n r).grant)
