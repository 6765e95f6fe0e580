-- The operations that remove keep the order: recall (on the same pad and across pads), give back, and the drop on 12. Each is an
-- instance of the removal theorem; what is shown is that what goes is closed.
use Prim.Native.Nat.{ℕ}
use mathlib.Core.Path.{◌≡◌, sym, ap, ◌∙◌, subst, fun_ext}
use mathlib.Core.Bool.{Bool, true, false, ◌||◌}
use lib.Dec.{eqb}
use borrow.Author.Tests.{eqb-true, eqb-false}
use Rattle.lists.proofs.Tests.{Case, pass, fail, case, no_true, contradiction, or_right}
use Rattle.tables.specs.declared.{Name.Name, Tables.Tables}
use Rattle.tables.specs.Names.{eq_name, is_none}
use Rattle.tables.specs.Lookup.{last_of, lookup, entry_of}
use Rattle.tables.specs.Chains.{own_name, parent_of, at_or_under, chain_head, at_or_below}
use Rattle.tables.specs.Order.{under_store}
use Rattle.tables.specs.Change.{drop_tickets}
use Rattle.tables.proofs.KindLaws.{child_head, recall_head, child_recall, grant_recall, taken_head}
use Rattle.tables.proofs.NameLaws.{eq_name_true, eq_name_refl, eq_name_false}
use Rattle.tables.proofs.Keys.{drop_no_entry}
use Rattle.machine.specs.declared.Request.{Request}
use Rattle.machine.specs.State.{asked_name, asked}
use Rattle.machine.specs.Recall.{lent_away, recall_tables}
use Rattle.machine.specs.GiveBack.{give_back_tables}
use Rattle.machine.specs.Step.{drop_head}
use Rattle.preservation.specs.Rules.{FarOk, Rules}
use Rattle.preservation.specs.InOrder.{InOrder}
use Rattle.preservation.proofs.RuleFacts.{taken_root, parent_grant}
use Rattle.preservation.proofs.AfterChange.{removed, lookup_removed, entry_removed, last_removed, shape_removed}
use Rattle.preservation.proofs.Removal.{Closure, rules_after_removal}
use Rattle.preservation.proofs.ChainSteps.{entry_grant, at_head, falls, at_root, entry_falls, target_step, recall_step, pair_head, head_is_dock, dock_head, dock_named}
use Rattle.preservation.proofs.ByDock.{recall_by_dock}
use Rattle.preservation.proofs.LentAway.{at_itself, lent_away_lem, lent_from, lent_falls}
use Rattle.tables.specs.Kinds.{is_grant, is_head, is_taken, is_child, is_recall}

order_removed : (t : Tables) → InOrder t → (gone cut : Name → Bool) → Closure (lookup t) (entry_of t) gone cut → InOrder (removed gone cut t)
order_removed t ok gone cut closure = record {
  shape = shape_removed gone cut t ok.shape;
  rules =
      subst (λ (f : ℕ → ℕ → ℕ). Rules (lookup (removed gone cut t)) (entry_of (removed gone cut t)) f)
      (sym (fun_ext (λ p. fun_ext (last_removed gone cut t p))))
      (rules_after_removal (lookup t) (lookup (removed gone cut t)) (entry_of t) (entry_of (removed gone cut t)) (last_of t) ok.rules
      gone cut closure (lookup_removed gone cut t) (entry_removed gone cut t));
}

module _ (t : Tables) (ok : InOrder t) where
  parent_is_grant : (n : Name) → is_none (parent_of (lookup t) n) ≡ false → is_grant (lookup t (parent_of (lookup t) n)).kind ≡ true
  parent_is_grant = parent_grant (lookup t) (entry_of t) (last_of t) ok.rules

  -- the entry that a recall of another pad's ticket names hangs under the entry of the recall's dock name
  far_hangs : (r : Name) → is_recall (lookup t r).kind ≡ true → ((lookup t r).other.pad ≡ r.pad → ⊥) → (entry_of t (lookup t r).other).live ≡ true
      → ((entry_of t (lookup t r).other).parent ≡ (lookup t (own_name r (lookup t r))).dock) × (under_store (entry_of t (lookup t r).other) ≡ false)
  far_hangs r h away l =
      let f : FarOk (lookup t (own_name r (lookup t r))) (entry_of t (lookup t r).other) = ok.rules.far_entry r h away l in
      (f.parent, ap is_none f.parent ∙ dock_named t ok (own_name r (lookup t r)) (ok.rules.recall r h).grant)

  -- so nothing taken is at or below it
  far_not_taken : (r : Name) → is_recall (lookup t r).kind ≡ true → ((lookup t r).other.pad ≡ r.pad → ⊥)
      → (n : Name) → is_taken (lookup t n).kind ≡ true → at_or_below t (lookup t r).other n ≡ true → ⊥
  far_not_taken r h away n k c =
      let l : (entry_of t n).live ≡ true = ok.rules.taken n k in
      let z : under_store (entry_of t n) ≡ true = taken_root (ok.rules.entry n l) k in
      let e : n ≡ (lookup t r).other = eq_name_true n (lookup t r).other (sym (at_root t ok (lookup t r).other n z) ∙ c) in
      contradiction z (ap (λ (m : Name). under_store (entry_of t m)) e ∙ (far_hangs r h away (ap (λ (m : Name). (entry_of t m).live) (sym e) ∙ l)).1)

  -- a recall under the head x: the entry that it names hangs directly under x's
  under_head : (x : Name) → is_head (lookup t x).kind ≡ true → (r : Name) → is_recall (lookup t r).kind ≡ true → ((lookup t r).other.pad ≡ r.pad → ⊥)
      → at_or_under t x r ≡ true → (entry_of t (lookup t r).other).live ≡ true → (entry_of t (lookup t r).other).parent ≡ x
  under_head x hx r h away g l =
      (far_hangs r h away l).0 ∙ eq_name_true (lookup t (own_name r (lookup t r))).dock x (sym (recall_by_dock t ok x hx r h) ∙ g)

  -- ---- give back: the taken grant x with all under it, its entry with all below it
  module _ (x : Name) (taken : is_taken (lookup t x).kind ≡ true) where
    give_back_closure : Closure (lookup t) (entry_of t) (at_or_under t x) (at_or_below t x)
    give_back_closure = record {
      down = falls t ok x;
      pair = pair_head t ok x (taken_head (lookup t x).kind taken);
      told = told;
      lost = lost;
      sink = entry_falls t ok x;
      both = both;
    }
      where
        root : under_store (entry_of t x) ≡ true
        root = taken_root (ok.rules.entry x (ok.rules.taken x taken)) taken

        told : (r : Name) → is_recall (lookup t r).kind ≡ true → ((lookup t r).other.pad ≡ r.pad → ⊥) → at_or_under t x r ≡ true
            → (entry_of t (lookup t r).other).live ≡ true → at_or_below t x (lookup t r).other ≡ true
        told r h away g l =
            entry_falls t ok x (lookup t r).other l (far_hangs r h away l).1
            (ap (at_or_below t x) (under_head x (taken_head (lookup t x).kind taken) r h away g l) ∙ at_root t ok x x root ∙ eq_name_refl x)

        lost : (n : Name) → (entry_of t n).live ≡ true → at_or_under t x n ≡ true → at_or_below t x n ≡ true
        lost n l g =
            let e : n ≡ x = eq_name_true n x (sym (at_head t ok x n (entry_grant t ok n l)) ∙ g) in
            at_root t ok x n (rw e root) ∙ rw e (eq_name_refl x)

        both : (n : Name) → is_taken (lookup t n).kind ≡ true → at_or_below t x n ≡ true → at_or_under t x n ≡ true
        both n h c =
            let z : under_store (entry_of t n) ≡ true = taken_root (ok.rules.entry n (ok.rules.taken n h)) h in
            at_head t ok x n (taken_head (lookup t n).kind h) ∙ sym (at_root t ok x n z) ∙ c

  -- ---- the drop on 12: the head x, which has no entry, with all under it
  module _ (x : Name) (head : is_head (lookup t x).kind ≡ true) (none : (entry_of t x).live ≡ false) where
    drop_closure : Closure (lookup t) (entry_of t) (at_or_under t x) (λ n. false)
    drop_closure = record { down = falls t ok x; pair = pair_head t ok x head; told = told; lost = lost; sink = λ n l z c. c; both = λ n h c. no_true c }
      where
        -- no entry hangs under an entry that is not there
        told : (r : Name) → is_recall (lookup t r).kind ≡ true → ((lookup t r).other.pad ≡ r.pad → ⊥) → at_or_under t x r ≡ true
            → (entry_of t (lookup t r).other).live ≡ true → false ≡ true
        told r h away g l =
            sym none ∙ ap (λ (m : Name). (entry_of t m).live) (sym (under_head x head r h away g l))
            ∙ (ok.rules.under (lookup t r).other l (far_hangs r h away l).1).live

        lost : (n : Name) → (entry_of t n).live ≡ true → at_or_under t x n ≡ true → false ≡ true
        lost n l g =
            let e : n ≡ x = eq_name_true n x (sym (at_head t ok x n (entry_grant t ok n l)) ∙ g) in
            sym none ∙ ap (λ (m : Name). (entry_of t m).live) (sym e) ∙ l

  -- ---- recall on the same pad: the recall me, its target and all under that; in the dock what was lent away from there
  module _ (me : Name) (recall : is_recall (lookup t me).kind ≡ true) (same : (lookup t me).other.pad ≡ me.pad) where
    near_closure : Closure (lookup t) (entry_of t) (λ n. eq_name n me || at_or_under t (lookup t me).other n) (lent_away t (λ n. eq_name n me || at_or_under t (lookup t me).other n))
    near_closure = record { down = down; pair = pair; told = told; lost = lost; sink = lent_falls t ok _; both = both }
      where
        told : (r : Name) → is_recall (lookup t r).kind ≡ true → ((lookup t r).other.pad ≡ r.pad → ⊥)
            → (eq_name r me || at_or_under t (lookup t me).other r) ≡ true → (entry_of t (lookup t r).other).live ≡ true
            → lent_away t (λ n. eq_name n me || at_or_under t (lookup t me).other n) (lookup t r).other ≡ true
        told r h away g l =
            lent_away_lem t ok _ (lookup t r).other (record { by = r; recall = h; goes = g; away = away; below = at_itself t (lookup t r).other })

        both : (n : Name) → is_taken (lookup t n).kind ≡ true → lent_away t (λ n. eq_name n me || at_or_under t (lookup t me).other n) n ≡ true
            → (eq_name n me || at_or_under t (lookup t me).other n) ≡ true
        both n h c =
            let f = lent_from t ok (λ n. eq_name n me || at_or_under t (lookup t me).other n) n c in
            absurd (far_not_taken f.by f.recall f.away n h f.below)

        target : is_child (lookup t (lookup t me).other).kind ≡ true
        target = (ok.rules.near me recall same).child

        down : (n : Name) → is_none (parent_of (lookup t) n) ≡ false
            → (eq_name (parent_of (lookup t) n) me || at_or_under t (lookup t me).other (parent_of (lookup t) n)) ≡ true
            → (eq_name n me || at_or_under t (lookup t me).other n) ≡ true
        down n h e =
            let a : eq_name (parent_of (lookup t) n) me ≡ false
            = eq_name_false (parent_of (lookup t) n) me (λ q. grant_recall (lookup t (parent_of (lookup t) n)).kind (parent_is_grant n h) (rw q recall)) in
            or_right (eq_name n me) (falls t ok (lookup t me).other n h (rw a at e))

        pair : (r : Name) → is_recall (lookup t r).kind ≡ true → (lookup t r).other.pad ≡ r.pad
            → (eq_name (lookup t r).other me || at_or_under t (lookup t me).other (lookup t r).other) ≡ (eq_name r me || at_or_under t (lookup t me).other r)
        pair r h p =
            let c : is_child (lookup t (lookup t r).other).kind ≡ true = (ok.rules.near r h p).child in
            let a : eq_name (lookup t r).other me ≡ false
            = eq_name_false (lookup t r).other me (λ e. child_recall (lookup t (lookup t r).other).kind c (rw e recall)) in
            let b : eq_name r (lookup t me).other ≡ false
            = eq_name_false r (lookup t me).other (λ e. child_recall (lookup t r).kind (rw e target) h) in
            let s : eq_name (lookup t r).other (lookup t me).other ≡ eq_name r me = go (case (eq_name r me)) in
            rw (a, target_step t ok (lookup t me).other r h p, recall_step t ok (lookup t me).other r h, b, s)
          where
            go : Case (eq_name r me) → eq_name (lookup t r).other (lookup t me).other ≡ eq_name r me
            go (pass e) = ap (λ (m : Name). eq_name (lookup t m).other (lookup t me).other) (eq_name_true r me e) ∙ eq_name_refl (lookup t me).other ∙ sym e
            go (fail e) =
                eq_name_false (lookup t r).other (lookup t me).other
                (λ q. no_true (sym e ∙ ap (λ (m : Name). eq_name m me) (ok.rules.once r me h recall q) ∙ eq_name_refl me))
                ∙ sym e

        lost : (n : Name) → (entry_of t n).live ≡ true → (eq_name n me || at_or_under t (lookup t me).other n) ≡ true
            → lent_away t (λ n. eq_name n me || at_or_under t (lookup t me).other n) n ≡ true
        lost n l g =
            let a : eq_name n me ≡ false = eq_name_false n me (λ e. recall_head (lookup t n).kind (rw e recall) (entry_grant t ok n l)) in
            let b : eq_name n (lookup t me).other ≡ false
            = eq_name_false n (lookup t me).other (λ e. child_head (lookup t n).kind (rw e target) (entry_grant t ok n l)) in
            no_true (sym b ∙ sym (at_head t ok (lookup t me).other n (entry_grant t ok n l)) ∙ (rw a at g))

  -- ---- recall across pads: the recall alone, and in the dock the target with all below it
  module _ (me : Name) (recall : is_recall (lookup t me).kind ≡ true) (other : (lookup t me).other.pad ≡ me.pad → ⊥) where
    far_closure : Closure (lookup t) (entry_of t) (λ n. eq_name n me) (at_or_below t (lookup t me).other)
    far_closure = record { down = down; pair = pair; told = told; lost = lost; sink = entry_falls t ok (lookup t me).other; both = both }
      where
        told : (r : Name) → is_recall (lookup t r).kind ≡ true → ((lookup t r).other.pad ≡ r.pad → ⊥) → eq_name r me ≡ true
            → (entry_of t (lookup t r).other).live ≡ true → at_or_below t (lookup t me).other (lookup t r).other ≡ true
        told r h away g l =
            ap (λ (m : Name). at_or_below t (lookup t me).other (lookup t m).other) (eq_name_true r me g) ∙ at_itself t (lookup t me).other

        down : (n : Name) → is_none (parent_of (lookup t) n) ≡ false → eq_name (parent_of (lookup t) n) me ≡ true → eq_name n me ≡ true
        down n h e = absurd (grant_recall (lookup t (parent_of (lookup t) n)).kind (parent_is_grant n h) (rw (eq_name_true (parent_of (lookup t) n) me e) recall))

        pair : (r : Name) → is_recall (lookup t r).kind ≡ true → (lookup t r).other.pad ≡ r.pad → eq_name (lookup t r).other me ≡ eq_name r me
        pair r h p =
            eq_name_false (lookup t r).other me (λ e. child_recall (lookup t (lookup t r).other).kind (ok.rules.near r h p).child (rw e recall))
            ∙ sym (eq_name_false r me (λ e. other (rw e at p)))

        lost : (n : Name) → (entry_of t n).live ≡ true → eq_name n me ≡ true → at_or_below t (lookup t me).other n ≡ true
        lost n l e = absurd (recall_head (lookup t n).kind (rw (eq_name_true n me e) recall) (entry_grant t ok n l))

        both : (n : Name) → is_taken (lookup t n).kind ≡ true → at_or_below t (lookup t me).other n ≡ true → eq_name n me ≡ true
        both n h c = absurd (far_not_taken me recall other n h c)

-- ---- the operations
pub give_back_keeps : (t : Tables) (r : Request) → InOrder t → is_taken (asked t r).kind ≡ true → InOrder (give_back_tables t r)
unfolding give_back_tables
give_back_keeps t r ok h = order_removed t ok _ _ (give_back_closure t ok (asked_name r) h)

pub recall_keeps : (t : Tables) (r : Request) → InOrder t → is_recall (asked t r).kind ≡ true → InOrder (recall_tables t r)
unfolding recall_tables
recall_keeps t r ok h = go (case (eqb (asked t r).other.pad r.pad))
  where
    go : Case (eqb (asked t r).other.pad r.pad) → InOrder (recall_tables t r)
    go (pass e) = rw e (order_removed t ok _ _ (near_closure t ok (asked_name r) h (eqb-true (asked t r).other.pad r.pad e)))
    go (fail e) = rw e (order_removed t ok _ _ (far_closure t ok (asked_name r) h (eqb-false (asked t r).other.pad r.pad e)))

pub drop_keeps : (t : Tables) (r : Request) → InOrder t → is_grant (asked t r).kind ≡ true → (entry_of t (asked t r).dock).live ≡ false → InOrder (drop_head t r)
unfolding drop_head
drop_keeps t r ok g e =
    let h : chain_head t (asked_name r) ≡ (asked t r).dock = head_is_dock t ok (asked_name r) g in
    subst InOrder (drop_no_entry (drop_tickets (at_or_under t (chain_head t (asked_name r))) t))
    (order_removed t ok _ _ (drop_closure t ok (chain_head t (asked_name r)) (rw h (dock_head t ok (asked_name r) g)) (rw h e)))
