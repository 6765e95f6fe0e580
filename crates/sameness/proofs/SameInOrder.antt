-- Tables that are the same as tables in order, with the same entries and with distinct numbers and names, are in order.
-- Rule by rule: each looks only at what a ticket's kind uses, which is what the two have in common.
use Prim.Native.Nat.{ℕ, ◌≤◌}
use native.Mathlib.Omega.{arith}
use mathlib.Core.Path.{◌≡◌, refl, sym, ap, ◌∙◌, subst, fun_ext}
use mathlib.Core.Bool.{true, false}
use Rattle.rights.specs.declared.Rights.{Rights}
use Rattle.rights.specs.Rules.{can_pass}
use Rattle.tables.specs.declared.{Name.Name, Entry.Entry, Tables.Tables}
use Rattle.tables.specs.Kinds.{is_live, is_grant, is_head, is_taken, is_received, is_child, is_recall}
use Rattle.tables.specs.Lookup.{last_of, lookup, entry_of}
use Rattle.tables.specs.Chains.{own_name, parent_of, entry_parent}
use Rattle.tables.specs.Order.{under_store}
use Rattle.tables.specs.Same.{SameTables}
use Rattle.tables.proofs.KindLaws.{head_grant, child_grant, up_child, up_recall}
use Rattle.tables.proofs.ByPlace.{found_number, found_name}
use Rattle.preservation.specs.Rules.{Span, Inside, Contains, Apart, Given, ChildOk, EntryOk, UnderOk, RecallOk, NearOk, FarOk, Recalled, Ends}
use Rattle.preservation.specs.InOrder.{Shape, InOrder}
use Rattle.preservation.proofs.RuleFacts.{entry_head}
use Rattle.sameness.proofs.SaidFacts.{same_kind, same_parent, same_first, same_count, same_rights, same_dock, same_target}

inside_same : {f c f' c' g d g' d' : ℕ} {r r' s s' : Rights} → f ≡ g → c ≡ d → r ≡ s → f' ≡ g' → c' ≡ d' → r' ≡ s' → Inside f c r f' c' r' → Inside g d s g' d' s'
inside_same a b c a' b' c' i = rw (a, b, c, a', b', c') at i

module _ (t u : Tables) (ok : InOrder t) (shape : Shape u) (same : SameTables t u) (entries : (n : Name) → entry_of t n ≡ entry_of u n) where
  -- ---- what a kind uses
  kinds : (n : Name) → (lookup u n).kind ≡ (lookup t n).kind
  kinds n = sym (same_kind t u same n)

  entry_map : entry_of t ≡ entry_of u
  entry_map = fun_ext entries

  child_other : (n : Name) → is_child (lookup t n).kind ≡ true → (lookup t n).other ≡ (lookup u n).other
  child_other n h =
      sym (up_child (lookup t n).kind n (lookup t n) h) ∙ same_parent t u same n
      ∙ up_child (lookup u n).kind n (lookup u n) (ap is_child (kinds n) ∙ h)

  own_same : (n : Name) → is_recall (lookup t n).kind ≡ true → own_name n (lookup t n) ≡ own_name n (lookup u n)
  own_same n h =
      sym (up_recall (lookup t n).kind n (lookup t n) h) ∙ same_parent t u same n
      ∙ up_recall (lookup u n).kind n (lookup u n) (ap is_recall (kinds n) ∙ h)

  given_same : (n : Name) → Given (last_of t) n → Given (last_of u) n
  given_same n g = record {
    pad = g.pad;
    program = g.program;
    low = g.low;
    high = subst (λ (m : ℕ). n.number ≤ m) (same.lasts n.pad n.program (omega (arith, g.pad)) (omega (arith, g.program))) g.high;
  }

  contains_same : (n m : Name) → is_grant (lookup t n).kind ≡ true → is_grant (lookup t m).kind ≡ true
      → Contains (lookup t n) (lookup t m) → Contains (lookup u n) (lookup u m)
  contains_same n m g h i =
      inside_same (same_first t u same n g) (same_count t u same n g) (same_rights t u same n g) (same_first t u same m h) (same_count t u same m h)
      (same_rights t u same m h) i

  -- ---- back to t
  live_back : (n : Name) → is_live (lookup u n).kind ≡ true → is_live (lookup t n).kind ≡ true
  live_back n h = ap is_live (sym (kinds n)) ∙ h

  grant_back : (n : Name) → is_grant (lookup u n).kind ≡ true → is_grant (lookup t n).kind ≡ true
  grant_back n h = ap is_grant (sym (kinds n)) ∙ h

  child_back : (n : Name) → is_child (lookup u n).kind ≡ true → is_child (lookup t n).kind ≡ true
  child_back n h = ap is_child (sym (kinds n)) ∙ h

  recall_back : (n : Name) → is_recall (lookup u n).kind ≡ true → is_recall (lookup t n).kind ≡ true
  recall_back n h = ap is_recall (sym (kinds n)) ∙ h

  -- ---- T2, T3
  span_of : (n : Name) → is_grant (lookup u n).kind ≡ true → Span (lookup u n).first (lookup u n).count (lookup u n).rights
  span_of n h =
      let g = grant_back n h in
      rw (same_first t u same n g, same_count t u same n g, same_rights t u same n g) at (ok.rules.span n g)

  child_of : (n : Name) → is_child (lookup u n).kind ≡ true → ChildOk n (lookup u n) (lookup u (lookup u n).other)
  child_of n h =
      let c = child_back n h in
      let m : Name = (lookup u n).other in
      let e : (lookup t n).other ≡ m = child_other n c in
      let g : is_grant (lookup t n).kind ≡ true = child_grant (lookup t n).kind c in
      let o : ChildOk n (lookup t n) (lookup t m) = subst (λ (x : Name). ChildOk n (lookup t n) (lookup t x)) e (ok.rules.child n c) in
      record {
        grant = ap is_grant (kinds m) ∙ o.grant;
        pad = ap (λ (x : Name). x.pad) (sym e) ∙ o.pad;
        program = λ q. o.program (ap (λ (x : Name). x.program) e ∙ q);
        pass = ap can_pass (sym (same_rights t u same m o.grant)) ∙ o.pass;
        inside = contains_same n m g o.grant o.inside;
        dock = sym (same_dock t u same n g) ∙ o.dock ∙ same_dock t u same m o.grant;
      }

  chain_of : (n : Name) → is_child (lookup u n).kind ≡ true → (d : ℕ) × Ends (parent_of (lookup u)) n d
  chain_of n h =
      subst (λ (parent : Name → Name). (d : ℕ) × Ends parent n d) (fun_ext (same_parent t u same)) (ok.rules.chain n (child_back n h))

  dock_of_lem : (n : Name) → is_head (lookup u n).kind ≡ true → (lookup u n).dock ≡ n
  dock_of_lem n h =
      let k : is_head (lookup t n).kind ≡ true = ap is_head (sym (kinds n)) ∙ h in
      sym (same_dock t u same n (head_grant (lookup t n).kind k)) ∙ ok.rules.dock n k

  -- ---- T5
  entry_of_lem : (n : Name) → (entry_of u n).live ≡ true → EntryOk (entry_of u n) (lookup u n)
  entry_of_lem n h =
      let l : (entry_of t n).live ≡ true = ap (λ (e : Entry). e.live) (entries n) ∙ h in
      let o : EntryOk (entry_of u n) (lookup t n) = subst (λ (e : Entry). EntryOk e (lookup t n)) (entries n) (ok.rules.entry n l) in
      let g : is_grant (lookup t n).kind ≡ true = head_grant (lookup t n).kind (entry_head o) in
      record {
        taken = λ z. ap is_taken (kinds n) ∙ o.taken z;
        store = o.store;
        received = λ z. ap is_received (kinds n) ∙ o.received z;
        first = sym (same_first t u same n g) ∙ o.first;
        count = sym (same_count t u same n g) ∙ o.count;
        rights = sym (same_rights t u same n g) ∙ o.rights;
      }

  under_of : (n : Name) → (entry_of u n).live ≡ true → under_store (entry_of u n) ≡ false → UnderOk (entry_of u n) (entry_of u (entry_of u n).parent)
  under_of n =
      subst (λ (e : Name → Entry). (e n).live ≡ true → under_store (e n) ≡ false → UnderOk (e n) (e (e n).parent)) entry_map (ok.rules.under n)

  entry_chain_of : (n : Name) → (entry_of u n).live ≡ true → (d : ℕ) × Ends (entry_parent (entry_of u)) n d
  entry_chain_of n = subst (λ (e : Name → Entry). (e n).live ≡ true → (d : ℕ) × Ends (entry_parent e) n d) entry_map (ok.rules.entry_chain n)

  roots_of : (n m : Name) → (entry_of u n).live ≡ true → (entry_of u m).live ≡ true → under_store (entry_of u n) ≡ true → under_store (entry_of u m) ≡ true
      → (n ≡ m → ⊥) → Apart (entry_of u n).first (entry_of u n).count (entry_of u m).first (entry_of u m).count
  roots_of n m =
      subst
      (λ (e : Name → Entry). (e n).live ≡ true → (e m).live ≡ true → under_store (e n) ≡ true → under_store (e m) ≡ true → (n ≡ m → ⊥)
      → Apart (e n).first (e n).count (e m).first (e m).count) entry_map (ok.rules.roots n m)

  taken_of : (n : Name) → is_taken (lookup u n).kind ≡ true → (entry_of u n).live ≡ true
  taken_of n h = ap (λ (e : Entry). e.live) (sym (entries n)) ∙ ok.rules.taken n (ap is_taken (sym (kinds n)) ∙ h)

  -- ---- T6
  recall_there : (n : Name) → is_recall (lookup u n).kind ≡ true → RecallOk (lookup t (own_name n (lookup u n)))
  recall_there n h = subst (λ (x : Name). RecallOk (lookup t x)) (own_same n (recall_back n h)) (ok.rules.recall n (recall_back n h))

  recall_of : (n : Name) → is_recall (lookup u n).kind ≡ true → RecallOk (lookup u (own_name n (lookup u n)))
  recall_of n h =
      let m : Name = own_name n (lookup u n) in
      let o = recall_there n h in
      record { grant = ap is_grant (kinds m) ∙ o.grant; pass = ap can_pass (sym (same_rights t u same m o.grant)) ∙ o.pass }

  target : (n : Name) → is_recall (lookup u n).kind ≡ true → (lookup t n).other ≡ (lookup u n).other
  target n h = same_target t u same n (recall_back n h)

  near_of : (n : Name) → is_recall (lookup u n).kind ≡ true → (lookup u n).other.pad ≡ n.pad → NearOk n (lookup u n) (lookup u (lookup u n).other)
  near_of n h p =
      let m : Name = (lookup u n).other in
      let e : (lookup t n).other ≡ m = target n h in
      let o : NearOk n (lookup t n) (lookup t m)
      = subst (λ (x : Name). NearOk n (lookup t n) (lookup t x)) e (ok.rules.near n (recall_back n h) (ap (λ (x : Name). x.pad) e ∙ p)) in
      record { child = ap is_child (kinds m) ∙ o.child; parent = sym (child_other m o.child) ∙ o.parent ∙ own_same n (recall_back n h) }

  away : (n : Name) → is_recall (lookup u n).kind ≡ true → ((lookup u n).other.pad ≡ n.pad → ⊥) → (lookup t n).other.pad ≡ n.pad → ⊥
  away n h p q = p (ap (λ (x : Name). x.pad) (sym (target n h)) ∙ q)

  far_of : (n : Name) → is_recall (lookup u n).kind ≡ true → ((lookup u n).other.pad ≡ n.pad → ⊥) → Given (last_of u) (lookup u n).other
  far_of n h p = given_same (lookup u n).other (subst (λ (x : Name). Given (last_of t) x) (target n h) (ok.rules.far n (recall_back n h) (away n h p)))

  far_entry_of : (n : Name) → is_recall (lookup u n).kind ≡ true → ((lookup u n).other.pad ≡ n.pad → ⊥) → (entry_of u (lookup u n).other).live ≡ true
      → FarOk (lookup u (own_name n (lookup u n))) (entry_of u (lookup u n).other)
  far_entry_of n h p l =
      let m : Name = own_name n (lookup u n) in
      let x : Name = (lookup u n).other in
      let g : is_grant (lookup t m).kind ≡ true = (recall_there n h).grant in
      let a : (entry_of t (lookup t n).other).live ≡ true = ap (λ (k : Name). (entry_of t k).live) (target n h) ∙ ap (λ (e : Entry). e.live) (entries x) ∙ l in
      let o : FarOk (lookup t (own_name n (lookup t n))) (entry_of t (lookup t n).other) = ok.rules.far_entry n (recall_back n h) (away n h p) a in
      let o' : FarOk (lookup t m) (entry_of u x)
      = subst (λ (e : Entry). FarOk (lookup t m) e) (entries x)
      (subst (λ (k : Name). FarOk (lookup t m) (entry_of t k)) (target n h)
      (subst (λ (k : Name). FarOk (lookup t k) (entry_of t (lookup t n).other)) (own_same n (recall_back n h)) o)) in
      record {
        parent = o'.parent ∙ same_dock t u same m g;
        inside = inside_same refl refl refl (same_first t u same m g) (same_count t u same m g) (same_rights t u same m g) o'.inside;
      }

  recalled_same : (n : Name) → Recalled (lookup t) n → Recalled (lookup u) n
  recalled_same n r =
      let k : is_recall (lookup u r.by).kind ≡ true = ap is_recall (kinds r.by) ∙ r.recall in
      record { by = r.by; recall = k; target = sym (target r.by k) ∙ r.target }

  recalled_of : (n : Name) → is_child (lookup u n).kind ≡ true → Recalled (lookup u) n
  recalled_of n h = recalled_same n (ok.rules.recalled n (child_back n h))

  no_far_of : (n : Name) → is_recall (lookup u n).kind ≡ true → ((lookup u n).other.pad ≡ n.pad → ⊥) → is_child (lookup u (lookup u n).other).kind ≡ false
  no_far_of n h p =
      ap is_child (kinds (lookup u n).other) ∙ ap (λ (x : Name). is_child (lookup t x).kind) (sym (target n h))
      ∙ ok.rules.no_far n (recall_back n h) (away n h p)

  lent_of : (n : Name) → (entry_of u n).live ≡ true → under_store (entry_of u n) ≡ false → Recalled (lookup u) n
  lent_of n h z =
      recalled_same n
      (ok.rules.lent n (ap (λ (e : Entry). e.live) (entries n) ∙ h) (ap under_store (entries n) ∙ z))

  pub same_in_order : InOrder u
  same_in_order = record {
    shape = shape;
    rules = record {
      named = λ n h. given_same n (ok.rules.named n (live_back n h));
      number = found_number u shape.sized;
      span = span_of;
      child = child_of;
      chain = chain_of;
      dock = dock_of_lem;
      entry_name = found_name u shape.sized;
      entry = entry_of_lem;
      under = under_of;
      entry_chain = entry_chain_of;
      roots = roots_of;
      taken = taken_of;
      recall = recall_of;
      near = near_of;
      far = far_of;
      far_entry = far_entry_of;
      once = λ n m h k e. ok.rules.once n m (recall_back n h) (recall_back m k) (target n h ∙ e ∙ sym (target m k));
      recalled = recalled_of;
      no_far = no_far_of;
      lent = lent_of;
    };
  }
