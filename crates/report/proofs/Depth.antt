-- At which depth a grant is lent: one depth each, below 256, and every listed grant has one.
use Prim.Native.Nat.{ℕ, suc, ◌≤◌, ◌<◌}
use native.Mathlib.Omega.{arith}
use native.Mathlib.Nat.{le_of_suc-le-suc}
use mathlib.Core.Path.{◌≡◌, refl, sym, ap, subst, ◌∙◌}
use mathlib.Core.Logic.{◌⊎◌, inl, inr}
use mathlib.Core.Bool.{true, false, cond}
use lib.Dec.{eqb}
use borrow.Author.Tests.{eqb-true, eqb-false}
use Rattle.lists.proofs.Tests.{Case, pass, fail, case, and_l, and_r, and_intro, contradiction}
use Rattle.lists.proofs.Pigeonhole.{pigeonhole}
use Rattle.tables.specs.declared.{Name.Name, Tables.Tables}
use Rattle.tables.specs.Kinds.{is_live, is_grant, is_head, is_taken, is_received, is_child, is_recall}
use Rattle.tables.specs.Names.{is_none}
use Rattle.tables.specs.Lookup.{last_of, lookup, entry_of, place_of}
use Rattle.tables.specs.Chains.{own_name, parent_of, entry_parent}
use Rattle.tables.specs.Order.{under_store}
use Rattle.tables.proofs.KindLaws.{live_grant, head_grant, taken_head, received_head, grant_sort, child_head}
use Rattle.preservation.specs.Rules.{Rules, Ends, here, up, Recalled}
use Rattle.preservation.proofs.RuleFacts.{child_up, child_linked, taken_root}
use Rattle.preservation.proofs.ChainSteps.{dock_named, has_chain}
use Rattle.preservation.proofs.Places.{all_low, all_once}
use Rattle.lists.specs.Members.{In}
use Rattle.report.specs.Rows.{is_listed, loans_of}
use Rattle.preservation.specs.InOrder.{InOrder}
use Rattle.report.proofs.Lending.{Loan, loan_of, in_loans, lender}

module _ (t : Tables) (now : InOrder t) where
  abbrev rules : Rules (lookup t) (entry_of t) (last_of t)
  rules = now.rules

  pub data Lent : Name → ℕ → Type 0 where
    root : {n : Name} → is_taken (lookup t n).kind ≡ true → Lent n 0
    loan : {n m : Name} {d : ℕ} → Lent n d → In m (loans_of t n) → Lent m (suc d)

  pub listed_of : (n : Name) → is_grant (lookup t n).kind ≡ true → (entry_of t (lookup t n).dock).live ≡ true → is_listed t n ≡ true
  unfolding is_listed
  listed_of n g l = and_intro g l

  pub listed_grant : (n : Name) → is_listed t n ≡ true → is_grant (lookup t n).kind ≡ true
  unfolding is_listed
  listed_grant n e = and_l (is_grant (lookup t n).kind) (entry_of t (lookup t n).dock).live e

  pub listed_entry : (n : Name) → is_listed t n ≡ true → (entry_of t (lookup t n).dock).live ≡ true
  unfolding is_listed
  listed_entry n e = and_r (is_grant (lookup t n).kind) (entry_of t (lookup t n).dock).live e

  -- ---- a taken grant is nobody's loan
  not_taken : (n m : Name) → In m (loans_of t n) → is_taken (lookup t m).kind ≡ true → ⊥
  not_taken n m i taken = go (case (eqb m.pad a.by.pad))
    where
      a : Loan t now n m
      a = loan_of t now n m i

      by : Name
      by = a.by

      go : Case (eqb m.pad a.by.pad) → ⊥
      go (pass e) =
          let same : (lookup t a.by).other.pad ≡ a.by.pad = ap (λ (x : Name). x.pad) a.target ∙ eqb-true m.pad a.by.pad e in
          let c : is_child (lookup t m).kind ≡ true = subst (λ (x : Name). is_child (lookup t x).kind ≡ true) a.target (rules.near a.by a.recall same).child in
          child_head (lookup t m).kind c (taken_head (lookup t m).kind taken)
      go (fail e) =
          let other : (lookup t a.by).other.pad ≡ a.by.pad → ⊥ = λ z. eqb-false m.pad a.by.pad e (ap (λ (x : Name). x.pad) (sym a.target) ∙ z) in
          let live : (entry_of t m).live ≡ true = rules.taken m taken in
          let live' : (entry_of t (lookup t a.by).other).live ≡ true = subst (λ (x : Name). (entry_of t x).live ≡ true) (sym a.target) live in
          let f = rules.far_entry a.by a.recall other live' in
          let p : (entry_of t m).parent ≡ (lookup t (own_name a.by (lookup t a.by))).dock = ap (λ (x : Name). (entry_of t x).parent) (sym a.target) ∙ f.parent in
          let named : is_none (lookup t (own_name a.by (lookup t a.by))).dock ≡ false = dock_named t now (own_name a.by (lookup t a.by))
          (rules.recall a.by a.recall).grant in
          contradiction (taken_root (rules.entry m live) taken) (ap is_none p ∙ named)

  -- ---- one depth
  pub one_depth : {n : Name} {d d' : ℕ} → Lent n d → Lent n d' → d ≡ d'
  one_depth (root e) (root e') = refl
  one_depth {n} (root e) (loan l i) = absurd (not_taken _ n i e)
  one_depth {n} (loan l i) (root e) = absurd (not_taken _ n i e)
  one_depth {n} (loan {d = e} l i) (loan {d = e'} l' i') = ap suc (one_depth {d = e} {d' = e'} l (subst (λ (x : Name). Lent x e') (lender t now _ _ n i' i) l'))

  pub lent_listed : {n : Name} {d : ℕ} → Lent n d → is_listed t n ≡ true
  lent_listed {n} (root e) =
      let h = taken_head (lookup t n).kind e in
      listed_of n (head_grant (lookup t n).kind h) (subst (λ (x : Name). (entry_of t x).live ≡ true) (sym (rules.dock n h)) (rules.taken n e))
  lent_listed {n} (loan l i) = (loan_of t now _ n i).listed

  -- ---- fewer than 256: the grants on the way lie in different places
  -- the i-th on the way, n itself behind the end
  way_name : {n : Name} {d : ℕ} → Lent n d → ℕ → Name
  way_name {n} (root e) i = n
  way_name {n} (loan {d = d} l m) i = let higher = way_name l i in cond (eqb i (suc d)) n higher

  way : {n : Name} {d : ℕ} (l : Lent n d) (i : ℕ) → i ≤ d → Lent (way_name l i) i
  unfolding way_name
  way {n} (root e) i b = let z : 0 ≡ i = omega arith in subst (λ (k : ℕ). Lent n k) z (root e)
  way {n} (loan {d = d} l m) i b = go (case (eqb i (suc d))) (λ c. way l i c)
    where
      go : Case (eqb i (suc d)) → (i ≤ d → Lent (way_name l i) i) → Lent (cond (eqb i (suc d)) n (way_name l i)) i
      go (pass e) h = rw e (subst (λ (k : ℕ). Lent n k) (sym (eqb-true i (suc d) e)) (loan l m))
      go (fail e) h = let ne = eqb-false i (suc d) e in rw e (h (omega (arith, ne, b)))

  live_at : {n : Name} {d : ℕ} → Lent n d → is_live (lookup t n).kind ≡ true
  live_at {n} l = live_grant (lookup t n).kind (listed_grant n (lent_listed l))

  pub shallow : {n : Name} {d : ℕ} → Lent n d → d < 256
  shallow {n} {d} l =
      pigeonhole 256 (suc d) (λ i. place_of t (way_name l i))
      (λ i b. all_low t now (way_name l i) (live_at (way l i (le_of_suc-le-suc b))))
      (λ i j b c e. one_depth
      (subst (λ (x : Name). Lent x i) (all_once t now (way_name l i) (way_name l j) (live_at (way l i (le_of_suc-le-suc b)))
      (live_at (way l j (le_of_suc-le-suc c))) e) (way l i (le_of_suc-le-suc b)))
      (way l j (le_of_suc-le-suc c)))

  -- ---- every listed grant is lent at some depth: by the chain of its dock name's entry, and within it by the chain on its pad
  pub record Reached (n : Name) : Type 0 where
    pub depth : ℕ
    pub at : Lent n depth

  -- of all listed grants with that dock name
  Docked : Name → Type 0
  Docked x = (n : Name) → is_listed t n ≡ true → (lookup t n).dock ≡ x → Reached n

  lent_by : (r n : Name) → is_recall (lookup t r).kind ≡ true → (lookup t r).other ≡ n → is_listed t n ≡ true → Reached (own_name r (lookup t r)) → Reached n
  lent_by r n e target l g = record { depth = suc g.depth; at = loan g.at (in_loans t now r n e target l) }

  -- the head of a dock name, from those of its entry's parent
  head_reached : (x : Name) → (entry_of t x).live ≡ true → (under_store (entry_of t x) ≡ false → Docked (entry_of t x).parent) → (n : Name)
      → is_listed t n ≡ true → is_head (lookup t n).kind ≡ true → n ≡ x → Reached n
  unfolding Docked
  head_reached x live above n l h z = go (case (under_store (entry_of t x)))
    where
      go : Case (under_store (entry_of t x)) → Reached n
      go (pass e) = subst (λ (y : Name). Reached y) (sym z) (record { depth = 0; at = root ((rules.entry x live).taken e) })
      go (fail e) =
          let r = now.rules.lent x live e in
          let received : is_received (lookup t x).kind ≡ true = (rules.entry x live).received e in
          let far : (lookup t r.by).other.pad ≡ r.by.pad → ⊥ = λ q.
          child_head (lookup t x).kind (subst (λ (y : Name). is_child (lookup t y).kind ≡ true) r.target (rules.near r.by r.recall q).child)
          (received_head (lookup t x).kind received) in
          let f = rules.far_entry r.by r.recall far (subst (λ (y : Name). (entry_of t y).live ≡ true) (sym r.target) live) in
          let g : Name = own_name r.by (lookup t r.by) in
          let p : (entry_of t x).parent ≡ (lookup t g).dock = ap (λ (y : Name). (entry_of t y).parent) (sym r.target) ∙ f.parent in
          let live' : (entry_of t (lookup t g).dock).live ≡ true = subst (λ (y : Name). (entry_of t y).live ≡ true) p (rules.under x live e).live in
          let lg : is_listed t g ≡ true = listed_of g (rules.recall r.by r.recall).grant live' in
          lent_by r.by n r.recall (r.target ∙ sym z) l (above e g lg (sym p))

  on_pad_lem : (x : Name) → (entry_of t x).live ≡ true → (under_store (entry_of t x) ≡ false → Docked (entry_of t x).parent)
      → {n : Name} {d : ℕ} → Ends (parent_of (lookup t)) n d → is_listed t n ≡ true → (lookup t n).dock ≡ x → Reached n
  on_pad_lem x live above {n} (here z) l e = go (grant_sort (lookup t n).kind (listed_grant n l))
    where
      go : (is_head (lookup t n).kind ≡ true) ⊎ (is_child (lookup t n).kind ≡ true) → Reached n
      go (inl h) = head_reached x live above n l h (sym (rules.dock n h) ∙ e)
      go (inr c) = contradiction z (child_linked (lookup t) (entry_of t) (last_of t) rules n c)
  on_pad_lem x live above {n} (up z rest) l e = go (grant_sort (lookup t n).kind (listed_grant n l)) (on_pad_lem x live above rest)
    where
      go : (is_head (lookup t n).kind ≡ true) ⊎ (is_child (lookup t n).kind ≡ true)
          → (is_listed t (parent_of (lookup t) n) ≡ true → (lookup t (parent_of (lookup t) n)).dock ≡ x → Reached (parent_of (lookup t) n)) → Reached n
      go (inl h) rec = head_reached x live above n l h (sym (rules.dock n h) ∙ e)
      go (inr c) rec =
          let p : parent_of (lookup t) n ≡ (lookup t n).other = child_up (lookup t) (entry_of t) (last_of t) rules n c in
          let ok = rules.child n c in
          let dock : (lookup t (lookup t n).other).dock ≡ x = sym ok.dock ∙ e in
          let lp : is_listed t (lookup t n).other ≡ true = listed_of (lookup t n).other ok.grant (subst (λ (y : Name). (entry_of t y).live ≡ true) (sym dock) live) in
          let parent : Reached (lookup t n).other = subst (λ (y : Name). Reached y) p
          (rec (subst (λ (y : Name). is_listed t y ≡ true) (sym p) lp) (subst (λ (y : Name). (lookup t y).dock ≡ x) (sym p) dock)) in
          let r = rules.recalled n c in
          near_loan r parent (case (eqb (lookup t r.by).other.pad r.by.pad))
        where
          near_loan : (r : Recalled (lookup t) n) → Reached (lookup t n).other → Case (eqb (lookup t r.by).other.pad r.by.pad) → Reached n
          near_loan r parent (pass q) =
              let k = rules.near r.by r.recall (eqb-true _ _ q) in
              let own : (lookup t n).other ≡ own_name r.by (lookup t r.by) = ap (λ (y : Name). (lookup t y).other) (sym r.target) ∙ k.parent in
              lent_by r.by n r.recall r.target l (subst (λ (y : Name). Reached y) own parent)
          near_loan r parent (fail q) =
              let c' : is_child (lookup t n).kind ≡ true = c in
              contradiction (subst (λ (y : Name). is_child (lookup t y).kind ≡ true) (sym r.target) c') (now.rules.no_far r.by r.recall (eqb-false _ _ q))

  all_docked : {x : Name} {d : ℕ} → Ends (entry_parent (entry_of t)) x d → (entry_of t x).live ≡ true → Docked x
  unfolding Docked
  all_docked {x} (here z) live n l e = on_pad_lem x live (λ q. contradiction z q) (has_chain t now n (live_grant (lookup t n).kind (listed_grant n l))).1 l e
  all_docked {x} (up z rest) live n l e =
      on_pad_lem x live (λ q. all_docked rest (rules.under x live q).live) (has_chain t now n (live_grant (lookup t n).kind (listed_grant n l))).1 l e

  pub reached : (n : Name) → is_listed t n ≡ true → Reached n
  unfolding Docked
  reached n l = let live = listed_entry n l in all_docked (rules.entry_chain (lookup t n).dock live).1 live n l refl
