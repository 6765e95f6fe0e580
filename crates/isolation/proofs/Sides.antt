-- Chains stay on their side: where no link joins the group to the others, a ticket's parent, its dock name and all that it reaches are on
-- its own side, and entries of the two sides share no sheet.
use Prim.Native.Nat.{ℕ, zero, suc, ◌+◌, ◌≤◌}
use native.Mathlib.Omega.{arith}
use mathlib.Core.Path.{◌≡◌, refl, sym, ap, ◌∙◌}
use mathlib.Core.Logic.{◌⊎◌, inl, inr}
use mathlib.Core.Bool.{Bool, true, false}
use Rattle.lists.proofs.Tests.{Case, pass, fail, case, no_true}
use Rattle.tables.specs.declared.{Name.Name, Entry.Entry, Tables.Tables}
use Rattle.tables.specs.Names.{eq_name, is_none}
use Rattle.tables.specs.Lookup.{last_of, lookup, entry_of}
use Rattle.tables.specs.Chains.{reaches, parent_of, at_or_under, entry_parent, at_or_below}
use Rattle.tables.specs.Order.{under_store}
use Rattle.tables.proofs.KindLaws.{live_grant, grant_sort, up_child, up_recall, has_parent_lem}
use Rattle.tables.proofs.NameLaws.{eq_name_true, eq_name_false}
use Rattle.tables.proofs.Links.{reaches_here, reaches_next}
use Rattle.machine.specs.Sequence.{Group}
use Rattle.machine.specs.Isolation.{owns, Unlinked}
use Rattle.preservation.specs.Rules.{Apart, UnderOk, Ends, here, up}
use Rattle.preservation.specs.InOrder.{InOrder}
use Rattle.preservation.proofs.RuleFacts.{child_up, child_linked, parent_grant}
use Rattle.preservation.proofs.ChainSteps.{has_chain, at_root}
use Rattle.preservation.proofs.AfterChange.{no_entry_there}
use Rattle.preservation.proofs.LentAway.{LentFrom}
use Rattle.tables.specs.Kinds.{is_live, is_grant, is_head, is_child, is_recall}

module _ (g : Group) (t : Tables) (ok : InOrder t) (apart : Unlinked g t) where
  -- ---- parents and dock names
  pub parent_side : (n : Name) → is_none (parent_of (lookup t) n) ≡ false → owns g (parent_of (lookup t) n) ≡ owns g n
  parent_side n z = go (has_parent_lem (lookup t n).kind n (lookup t n) z)
    where
      go : (is_child (lookup t n).kind ≡ true) ⊎ (is_recall (lookup t n).kind ≡ true) → owns g (parent_of (lookup t) n) ≡ owns g n
      go (inl c) = ap (owns g) (up_child (lookup t n).kind n (lookup t n) c) ∙ apart.parent n c
      go (inr c) = ap (owns g) (up_recall (lookup t n).kind n (lookup t n) c)

  dock_walk : {n : Name} {d : ℕ} → Ends (parent_of (lookup t)) n d → is_grant (lookup t n).kind ≡ true → owns g (lookup t n).dock ≡ owns g n
  dock_walk {n} (here z) k = go (grant_sort (lookup t n).kind k)
    where
      go : (is_head (lookup t n).kind ≡ true) ⊎ (is_child (lookup t n).kind ≡ true) → owns g (lookup t n).dock ≡ owns g n
      go (inl h) = ap (owns g) (ok.rules.dock n h)
      go (inr c) = no_true (sym (child_linked (lookup t) (entry_of t) (last_of t) ok.rules n c) ∙ z)
  dock_walk {n} (up z r) k = go (grant_sort (lookup t n).kind k) (dock_walk r (parent_grant (lookup t) (entry_of t) (last_of t) ok.rules n z))
    where
      go : (is_head (lookup t n).kind ≡ true) ⊎ (is_child (lookup t n).kind ≡ true)
          → owns g (lookup t (parent_of (lookup t) n)).dock ≡ owns g (parent_of (lookup t) n) → owns g (lookup t n).dock ≡ owns g n
      go (inl h) ih = ap (owns g) (ok.rules.dock n h)
      go (inr c) ih =
          let p = child_up (lookup t) (entry_of t) (last_of t) ok.rules n c in
          ap (owns g) ((ok.rules.child n c).dock ∙ ap (λ (m : Name). (lookup t m).dock) (sym p)) ∙ ih ∙ parent_side n z

  pub dock_side : (n : Name) → is_grant (lookup t n).kind ≡ true → owns g (lookup t n).dock ≡ owns g n
  dock_side n k = dock_walk (has_chain t ok n (live_grant (lookup t n).kind k)).1 k

  -- ---- nothing of the group's reaches a name of the others
  module _ (x : Name) (away : owns g x ≡ false) where
    other : (n : Name) → owns g n ≡ true → eq_name n x ≡ false
    other n h = eq_name_false n x (λ e. no_true (sym away ∙ ap (owns g) (sym e) ∙ h))

    -- over any chain whose links stay on their side
    reaches_not : (parent : Name → Name) (good : Name → Type 0)
        → ((n : Name) → good n → is_none (parent n) ≡ false → good (parent n)) → ((n : Name) → good n → is_none (parent n) ≡ false → owns g (parent n) ≡ owns g n)
        → {n : Name} {d : ℕ} → Ends parent n d → good n → owns g n ≡ true → (left : ℕ) → reaches left parent n x ≡ false
    unfolding reaches
    reaches_not parent good climbs side (here z) h o zero = refl
    reaches_not parent good climbs side (up z r) h o zero = refl
    reaches_not parent good climbs side {n} (here z) h o (suc left) = reaches_here parent x left n z ∙ other n o
    reaches_not parent good climbs side {n} (up z r) h o (suc left) =
        reaches_next parent x left n z ∙ rw (other n o) (reaches_not parent good climbs side r (climbs n h z) (side n h z ∙ o) left)

    pub not_under : (n : Name) → owns g n ≡ true → is_live (lookup t n).kind ≡ true → at_or_under t x n ≡ false
    not_under n o l = reaches_not (parent_of (lookup t)) (λ m. Unit {0}) (λ m h z. tt) (λ m h. parent_side m) (has_chain t ok n l).1 tt o 64

    pub not_below : (n : Name) → owns g n ≡ true → (entry_of t n).live ≡ true → at_or_below t x n ≡ false
    not_below n o l =
        reaches_not (entry_parent (entry_of t)) (λ m. (entry_of t m).live ≡ true) (λ m h z. (ok.rules.under m h z).live) apart.entry (ok.rules.entry_chain n l).1 l o 256

  -- what the group's entry is at or below is the group's; a name that has no entry is only at itself
  pub below_side : (x n : Name) → owns g n ≡ true → at_or_below t x n ≡ true → owns g x ≡ true
  below_side x n o e = go (case (owns g x)) (case (entry_of t n).live)
    where
      go : Case (owns g x) → Case (entry_of t n).live → owns g x ≡ true
      go (pass h) _ = h
      go (fail h) (pass l) = no_true (sym (not_below x h n o l) ∙ e)
      go (fail h) (fail l) =
          let z : under_store (entry_of t n) ≡ true = ap under_store (no_entry_there t n l) in
          ap (owns g) (sym (eq_name_true n x (sym (at_root t ok x n z) ∙ e))) ∙ o

  -- a recall from which the group's entry was lent away is the group's
  pub lender_side : (gone : Name → Bool) (n : Name) → owns g n ≡ true → (f : LentFrom t gone n) → owns g f.by ≡ true
  lender_side gone n o f = sym (apart.target f.by f.recall) ∙ below_side (lookup t f.by).other n o f.below

  -- ---- entries of the two sides share no sheet
  -- the entry directly under the store that an entry comes from
  record Origin (n : Name) : Type 0 where
    name : Name
    live : (entry_of t name).live ≡ true
    root : under_store (entry_of t name) ≡ true
    from : (entry_of t name).first ≤ (entry_of t n).first
    to : (entry_of t n).first + (entry_of t n).count ≤ (entry_of t name).first + (entry_of t name).count
    side : owns g name ≡ owns g n

  origin : {n : Name} {d : ℕ} → Ends (entry_parent (entry_of t)) n d → (entry_of t n).live ≡ true → Origin n
  origin {n} (here z) l = record { name = n; live = l; root = z; from = omega arith; to = omega arith; side = refl }
  origin {n} (up z r) l =
      let u : UnderOk (entry_of t n) (entry_of t (entry_of t n).parent) = ok.rules.under n l z in
      let p : Origin (entry_of t n).parent = origin r u.live in
      record {
        name = p.name;
        live = p.live;
        root = p.root;
        from = omega (arith, p.from, u.inside.from);
        to = omega (arith, p.to, u.inside.to);
        side = p.side ∙ apart.entry n l z;
      }

  pub sides_apart : (n m : Name) → owns g n ≡ true → owns g m ≡ false → (entry_of t n).live ≡ true → (entry_of t m).live ≡ true
      → Apart (entry_of t n).first (entry_of t n).count (entry_of t m).first (entry_of t m).count
  sides_apart n m a b l k =
      let p : Origin n = origin (ok.rules.entry_chain n l).1 l in
      let q : Origin m = origin (ok.rules.entry_chain m k).1 k in
      narrow (entry_of t n) (entry_of t p.name) (entry_of t m) (entry_of t q.name) p.from p.to q.from q.to
      (ok.rules.roots p.name q.name p.live q.live p.root q.root
      (λ e. no_true (sym (q.side ∙ b) ∙ ap (owns g) (sym e) ∙ p.side ∙ a)))
    where
      narrow : (a b c d : Entry) → b.first ≤ a.first → a.first + a.count ≤ b.first + b.count → d.first ≤ c.first → c.first + c.count ≤ d.first + d.count
          → Apart b.first b.count d.first d.count → Apart a.first a.count c.first c.count
      narrow a b c d w x y z (inl e) = inl (omega arith)
      narrow a b c d w x y z (inr e) = inr (omega arith)
