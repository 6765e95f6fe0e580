-- Tables that pass the test are in order: from the Bool `in_order`, with the lengths of the arrays, to the proposition T1 to T6, rule by rule.
use Prim.Native.Nat.{ℕ, ◌≤◌, ◌<◌}
use native.Mathlib.Omega.{arith}
use mathlib.Core.Path.{◌≡◌, subst}
use mathlib.Core.Logic.{◌⊎◌, inl, inr}
use mathlib.Core.Bool.{true, false, not, ◌&&◌, cond}
use lib.Dec.{eqb}
use lib.ListN.{length}
use borrow.Author.Tests.{eqb-true, eqb-false, eq-eqb, ne_eqb, not-true, not-false}
use Rattle.lists.specs.Tests.{implies, between}
use Rattle.lists.specs.Lists.{first_index, no_two}
use Rattle.lists.proofs.Tests.{and_l, and_r, and_intro, not_test, implies_elim, between_low, between_high}
use Rattle.lists.proofs.Everywhere.{all_elim}
use Rattle.lists.proofs.Keyed.{Distinct, distinct_intro, no_two_keys}
use Rattle.rights.specs.Rules.{can_pass}
use Rattle.rights.proofs.Rules.{rights_eq}
use Rattle.tables.specs.declared.{Name.Name, Ticket.Ticket, Entry.Entry, Tables.Tables}
use Rattle.tables.specs.Names.{no_name, eq_name, is_program, free}
use Rattle.tables.specs.Lookup.{Sized, tickets_of, last_of, has_number, ticket_in, lookup, is_named, entry_in, entry_of}
use Rattle.tables.specs.Chains.{own_name, parent_of, chain_head, entry_parent, chain_root}
use Rattle.tables.specs.Sheets.{apart, inside}
use Rattle.tables.specs.Order.{every_ticket, is_recalled, every_entry, numbers_ok, t1, span_ok, t2, parent_ok, child_ok, t3, t4, entry_names_ok, under_store, grant_ok, parent_entry_ok, entry_ok, roots_ok, t5, recall_parent_ok, is_child_of, far_target_ok, target_ok, recall_ok, t6, in_order}
use Rattle.tables.proofs.KindLaws.{live_grant, live_child, live_recall, live_head, live_taken}
use Rattle.tables.proofs.NameLaws.{eq_name_true, eq_name_test, is_program_lem}
use Rattle.tables.proofs.Keys.{ticket_keys, entry_keys, ticket_laws, entry_laws}
use Rattle.tables.proofs.ByPlace.{ticket_at, place_low_lem, found_number, name_in_range, every_entry_elim, found_name, numbers_at}
use Rattle.preservation.specs.Rules.{Apart, Given, ChildOk, RecallOk, NearOk, FarOk, Recalled, EntryOk, UnderOk}
use Rattle.preservation.specs.InOrder.{Shape, InOrder}
use Rattle.preservation.proofs.SheetTests.{inside_of, span_of, apart_of, apart_sym}
use Rattle.preservation.proofs.Walks.{ends_of}
use Rattle.preservation.proofs.RuleFacts.{entry_head}
use Rattle.preservation.proofs.TestsByName.{every_ticket_elim, SomeName, some_ticket_elim}
use Rattle.tables.specs.Kinds.{is_live, is_grant, is_head, is_taken, is_received, is_child, is_recall}

-- ---- the parts of a rule, each from its test
parent_of_lem : (n : Name) (k p : Ticket) → parent_ok n k p ≡ true → ChildOk n k p
unfolding parent_ok
parent_of_lem n k p e =
    let f₁ : is_grant p.kind ≡ true = search (and_l, and_r) depth 9 in
    let f₂ : eqb k.other.pad n.pad ≡ true = search (and_l, and_r) depth 9 in
    let f₃ : not (eqb k.other.program n.program) ≡ true = search (and_l, and_r) depth 9 in
    let f₄ : can_pass p.rights ≡ true = search (and_l, and_r) depth 9 in
    let f₅ : inside k.first k.count k.rights p.first p.count p.rights ≡ true = search (and_l, and_r) depth 9 in
    let f₆ : eq_name k.dock p.dock ≡ true = search (and_l, and_r) depth 9 in
    record {
      grant = f₁;
      pad = eqb-true k.other.pad n.pad f₂;
      program = eqb-false k.other.program n.program (not-true (eqb k.other.program n.program) f₃);
      pass = f₄;
      inside = inside_of _ _ _ _ _ _ f₅;
      dock = eq_name_true k.dock p.dock f₆;
    }

grant_of : (e : Entry) (k : Ticket) → grant_ok e k ≡ true → EntryOk e k
unfolding grant_ok
grant_of e k h =
    let f₁ : cond (under_store e) (eq_name e.parent no_name && is_taken k.kind) (is_received k.kind) ≡ true = search (and_l, and_r) depth 6 in
    let f₂ : eqb k.first e.first ≡ true = search (and_l, and_r) depth 6 in
    let f₃ : eqb k.count e.count ≡ true = search (and_l, and_r) depth 6 in
    let f₄ : eqb k.rights.bits e.rights.bits ≡ true = search (and_l, and_r) depth 6 in
    record {
      taken = λ z. and_r (eq_name e.parent no_name) (is_taken k.kind) (rw z at f₁);
      store = λ z. eq_name_true e.parent no_name (and_l (eq_name e.parent no_name) (is_taken k.kind) (rw z at f₁));
      received = λ z. rw z at f₁;
      first = eqb-true k.first e.first f₂;
      count = eqb-true k.count e.count f₃;
      rights = rights_eq (eqb-true k.rights.bits e.rights.bits f₄);
    }

parent_entry_of : (e p : Entry) → parent_entry_ok e p ≡ true → UnderOk e p
unfolding parent_entry_ok
parent_entry_of e p h =
    let f₁ : p.live ≡ true = search (and_l, and_r) depth 4 in
    let f₂ : can_pass p.rights ≡ true = search (and_l, and_r) depth 4 in
    let f₃ : inside e.first e.count e.rights p.first p.count p.rights ≡ true = search (and_l, and_r) depth 4 in
    record { live = f₁; pass = f₂; inside = inside_of _ _ _ _ _ _ f₃ }

module _ (t : Tables) (x : Name) (p : Ticket) (e : Entry) (h : far_target_ok t x p e ≡ true) where
  far_given : Given (last_of t) x
  unfolding far_target_ok
  far_given =
      let f₁ : is_program x.pad x.program ≡ true = search (and_l, and_r) depth 6 in
      let f₂ : between 1 (last_of t x.pad x.program) x.number ≡ true = search (and_l, and_r) depth 6 in
      let g = is_program_lem x.pad x.program f₁ in
      record { pad = g.pad; program = g.program; low = between_low 1 _ x.number f₂; high = between_high 1 _ x.number f₂ }

  far_no_child : is_child (lookup t x).kind ≡ false
  unfolding far_target_ok
  far_no_child =
      let f : not (is_child (lookup t x).kind) ≡ true = search (and_l, and_r) depth 6 in
      not-true (is_child (lookup t x).kind) f

  far_entry_lem : e.live ≡ true → FarOk p e
  unfolding far_target_ok
  far_entry_lem l =
      let f : implies e.live (eq_name e.parent p.dock && inside e.first e.count e.rights p.first p.count p.rights) ≡ true
      = search (and_l, and_r) depth 6 in
      let g = implies_elim e.live (eq_name e.parent p.dock && inside e.first e.count e.rights p.first p.count p.rights) f l in
      record { parent = eq_name_true e.parent p.dock (and_l (eq_name e.parent p.dock) _ g); inside = inside_of _ _ _ _ _ _ (and_r (eq_name e.parent p.dock) _ g) }

module _ (t : Tables) (z : Sized t) (test : in_order t ≡ true) where
  -- ---- the rules that the test is made of
  rule1 : t1 t ≡ true
  unfolding in_order
  rule1 = search (and_l, and_r) depth 8

  rule2 : t2 t ≡ true
  unfolding in_order
  rule2 = search (and_l, and_r) depth 8

  rule3 : t3 t ≡ true
  unfolding in_order
  rule3 = search (and_l, and_r) depth 8

  rule4 : t4 t ≡ true
  unfolding in_order
  rule4 = search (and_l, and_r) depth 8

  rule5_names : entry_names_ok t ≡ true
  unfolding in_order t5
  rule5_names = search (and_l, and_r) depth 9

  rule5_entries : every_entry (entry_ok t) t ≡ true
  unfolding in_order t5
  rule5_entries = search (and_l, and_r) depth 9

  rule5_roots : roots_ok t ≡ true
  unfolding in_order t5
  rule5_roots = search (and_l, and_r) depth 9

  rule5_taken : every_ticket is_taken (λ n k. (entry_of t n).live) t ≡ true
  unfolding in_order t5
  rule5_taken = search (and_l, and_r) depth 9

  rule6_recalls : every_ticket is_recall (recall_ok t) t ≡ true
  unfolding in_order t6
  rule6_recalls = search (and_l, and_r) depth 8

  rule6_children : every_ticket is_child (λ n k. is_recalled t n) t ≡ true
  unfolding in_order t6
  rule6_children = search (and_l, and_r) depth 9

  rule6_lent : every_entry (λ e. implies (not (under_store e)) (is_recalled t e.name)) t ≡ true
  unfolding in_order t6
  rule6_lent = search (and_l, and_r) depth 9

  -- ---- T1
  distinct : (p q : ℕ) → p < 4 → q < 8 → Distinct ticket_keys (tickets_of t p q)
  unfolding numbers_ok
  distinct p q b c = distinct_intro ticket_keys ticket_laws (tickets_of t p q) (and_l (no_two _ _ (tickets_of t p q)) _ (numbers_at t z rule1 b c))

  numbered : (p q i : ℕ) → p < 4 → q < 8 → i < length (tickets_of t p q) → is_live (ticket_at t p q i).kind ≡ true
      → between 1 (last_of t p q) (ticket_at t p q i).number ≡ true
  unfolding numbers_ok
  numbered p q i b c d =
      implies_elim (is_live (ticket_at t p q i).kind) _
      (all_elim free (λ k. implies (is_live k.kind) (between 1 (last_of t p q) k.number)) (tickets_of t p q)
      (and_r (no_two (λ k. is_live k.kind) (λ k other. eqb k.number other.number) (tickets_of t p q)) _ (numbers_at t z rule1 b c)) i d)

  distinct_entries_lem : Distinct entry_keys t.entries
  unfolding entry_names_ok
  distinct_entries_lem = distinct_intro entry_keys entry_laws t.entries rule5_names

  test_shape : Shape t
  test_shape = record {
    sized = z;
    distinct = distinct;
    distinct_entries = distinct_entries_lem;
  }

  number_between : (n : Name) → is_live (lookup t n).kind ≡ true → between 1 (last_of t n.pad n.program) n.number ≡ true
  unfolding lookup ticket_in
  number_between n l =
      let r = name_in_range t z n l in
      subst (λ (m : ℕ). between 1 (last_of t n.pad n.program) m ≡ true) (found_number t z n l)
      (numbered n.pad n.program (first_index (has_number n.number) (tickets_of t n.pad n.program)) r.pad r.program (place_low_lem t z n l) l)

  given : (n : Name) → is_live (lookup t n).kind ≡ true → Given (last_of t) n
  given n l =
      let r = name_in_range t z n l in
      record {
        pad = omega (arith, r.pad);
        program = omega (arith, r.program);
        low = between_low 1 _ n.number (number_between n l);
        high = between_high 1 _ n.number (number_between n l);
      }

  -- ---- T3
  child_test : (n : Name) → is_child (lookup t n).kind ≡ true → child_ok t n (lookup t n) ≡ true
  unfolding t3
  child_test = every_ticket_elim t z is_child live_child (child_ok t) rule3

  child_of : (n : Name) → is_child (lookup t n).kind ≡ true → ChildOk n (lookup t n) (lookup t (lookup t n).other)
  unfolding child_ok
  child_of n h = parent_of_lem n (lookup t n) (lookup t (lookup t n).other) (and_l (parent_ok n (lookup t n) (lookup t (lookup t n).other)) _ (child_test n h))

  head_found : (n : Name) → is_child (lookup t n).kind ≡ true → is_head (lookup t (chain_head t n)).kind ≡ true
  unfolding child_ok
  head_found n h = and_r (parent_ok n (lookup t n) (lookup t (lookup t n).other)) _ (child_test n h)

  -- nothing live has the number 0
  no_head : is_head (lookup t no_name).kind ≡ true → ⊥
  no_head h = let b : 1 ≤ 0 = (given no_name (live_head (lookup t no_name).kind h)).low in omega arith

  -- ---- T5
  entry_test : (n : Name) → (entry_of t n).live ≡ true → entry_ok t (entry_of t n) ≡ true
  entry_test = every_entry_elim t z (entry_ok t) rule5_entries

  entry_of_lem : (n : Name) → (entry_of t n).live ≡ true → EntryOk (entry_of t n) (lookup t n)
  unfolding entry_ok
  entry_of_lem n l =
      let h = entry_test n l in
      let g : grant_ok (entry_of t n) (lookup t (entry_of t n).name) ≡ true = search (and_l, and_r) depth 4 in
      subst (λ (m : Name). EntryOk (entry_of t n) (lookup t m)) (found_name t z n l) (grant_of (entry_of t n) (lookup t (entry_of t n).name) g)

  under_of : (n : Name) → (entry_of t n).live ≡ true → under_store (entry_of t n) ≡ false → UnderOk (entry_of t n) (entry_of t (entry_of t n).parent)
  unfolding entry_ok
  under_of n l w =
      let h = entry_test n l in
      let f : implies (not (under_store (entry_of t n))) (parent_entry_ok (entry_of t n) (entry_of t (entry_of t n).parent)) ≡ true = search (and_l, and_r) depth 4 in
      parent_entry_of (entry_of t n) (entry_of t (entry_of t n).parent)
      (implies_elim (not (under_store (entry_of t n))) _ f (not_test (under_store (entry_of t n)) w))

  root_found : (n : Name) → (entry_of t n).live ≡ true → (entry_of t (chain_root t n)).live ≡ true
  unfolding entry_ok
  root_found n l =
      let h = entry_test n l in
      let f : (entry_of t (chain_root t (entry_of t n).name)).live ≡ true = search (and_l, and_r) depth 4 in
      subst (λ (m : Name). (entry_of t (chain_root t m)).live ≡ true) (found_name t z n l) f

  no_entry_lem : (entry_of t no_name).live ≡ true → ⊥
  no_entry_lem l = no_head (entry_head (entry_of_lem no_name l))

  roots_of : (n m : Name) → (entry_of t n).live ≡ true → (entry_of t m).live ≡ true → under_store (entry_of t n) ≡ true → under_store (entry_of t m) ≡ true
      → (n ≡ m → ⊥) → Apart (entry_of t n).first (entry_of t n).count (entry_of t m).first (entry_of t m).count
  unfolding roots_ok entry_in is_named
  roots_of n m l k v w ne =
      go (no_two_keys entry_keys entry_laws (λ e. e.live && under_store e) (λ e other. not (apart e.first e.count other.first other.count))
      (λ e. and_l e.live _) t.entries rule5_roots n m ne (and_intro l v) (and_intro k w))
    where
      go : (not (apart (entry_of t n).first (entry_of t n).count (entry_of t m).first (entry_of t m).count) ≡ false)
          ⊎ (not (apart (entry_of t m).first (entry_of t m).count (entry_of t n).first (entry_of t n).count) ≡ false)
          → Apart (entry_of t n).first (entry_of t n).count (entry_of t m).first (entry_of t m).count
      go (inl h) = apart_of _ _ _ _ (not-false _ h)
      go (inr h) = apart_sym _ _ _ _ (apart_of _ _ _ _ (not-false _ h))

  -- ---- T6
  recall_test : (n : Name) → is_recall (lookup t n).kind ≡ true → recall_ok t n (lookup t n) ≡ true
  recall_test = every_ticket_elim t z is_recall live_recall (recall_ok t) rule6_recalls

  recall_of : (n : Name) → is_recall (lookup t n).kind ≡ true → RecallOk (lookup t (own_name n (lookup t n)))
  unfolding recall_ok recall_parent_ok
  recall_of n h =
      let e = recall_test n h in
      let f₁ : is_grant (lookup t (own_name n (lookup t n))).kind ≡ true = search (and_l, and_r) depth 5 in
      let f₂ : can_pass (lookup t (own_name n (lookup t n))).rights ≡ true = search (and_l, and_r) depth 5 in
      record { grant = f₁; pass = f₂ }

  target_test : (n : Name) → is_recall (lookup t n).kind ≡ true → target_ok t n (lookup t n) ≡ true
  unfolding recall_ok
  target_test n h = let e = recall_test n h in search (and_l, and_r) depth 5

  near_of : (n : Name) → is_recall (lookup t n).kind ≡ true → (lookup t n).other.pad ≡ n.pad → NearOk n (lookup t n) (lookup t (lookup t n).other)
  unfolding target_ok is_child_of
  near_of n h p =
      let e = target_test n h in
      let f : (is_child (lookup t (lookup t n).other).kind && eq_name (lookup t (lookup t n).other).other (own_name n (lookup t n))) ≡ true
      = rw (eq-eqb (lookup t n).other.pad n.pad p) at e in
      record {
        child = and_l (is_child (lookup t (lookup t n).other).kind) _ f;
        parent = eq_name_true (lookup t (lookup t n).other).other (own_name n (lookup t n)) (and_r (is_child (lookup t (lookup t n).other).kind) _ f);
      }

  far_test : (n : Name) → is_recall (lookup t n).kind ≡ true → ((lookup t n).other.pad ≡ n.pad → ⊥)
      → far_target_ok t (lookup t n).other (lookup t (own_name n (lookup t n))) (entry_of t (lookup t n).other) ≡ true
  unfolding target_ok
  far_test n h p = let e = target_test n h in rw (ne_eqb (lookup t n).other.pad n.pad p) at e

  once_of : (n m : Name) → is_recall (lookup t n).kind ≡ true → is_recall (lookup t m).kind ≡ true → (lookup t n).other ≡ (lookup t m).other → n ≡ m
  unfolding recall_ok
  once_of n m h k e =
      let w = recall_test m k in
      let x : every_ticket is_recall (λ a other. implies (eq_name other.other (lookup t m).other) (eq_name a m)) t ≡ true = search (and_l, and_r) depth 5 in
      eq_name_true n m
      (implies_elim (eq_name (lookup t n).other (lookup t m).other) (eq_name n m)
      (every_ticket_elim t z is_recall live_recall (λ a other. implies (eq_name other.other (lookup t m).other) (eq_name a m)) x n h)
      (eq_name_test (lookup t n).other (lookup t m).other e))

  recalled_from : (n : Name) → is_recalled t n ≡ true → Recalled (lookup t) n
  recalled_from n x =
      let s : SomeName t test_shape is_recall live_recall (λ a recall. eq_name recall.other n)
      = some_ticket_elim t test_shape is_recall live_recall (λ a recall. eq_name recall.other n) x in
      record { by = s.name; recall = s.picked; target = eq_name_true (lookup t s.name).other n s.passes }

  recalled_of : (n : Name) → is_child (lookup t n).kind ≡ true → Recalled (lookup t) n
  recalled_of n h = recalled_from n (every_ticket_elim t z is_child live_child (λ m k. is_recalled t m) rule6_children n h)

  lent_of : (n : Name) → (entry_of t n).live ≡ true → under_store (entry_of t n) ≡ false → Recalled (lookup t) n
  lent_of n l w =
      let f : implies (not (under_store (entry_of t n))) (is_recalled t (entry_of t n).name) ≡ true
      = every_entry_elim t z (λ e. implies (not (under_store e)) (is_recalled t e.name)) rule6_lent n l in
      recalled_from n
      (subst (λ (m : Name). is_recalled t m ≡ true) (found_name t z n l)
      (implies_elim (not (under_store (entry_of t n))) _ f (not_test (under_store (entry_of t n)) w)))

  pub test_means_order : InOrder t
  unfolding t2 t4
  test_means_order = record {
    shape = test_shape;
    rules = record {
      named = given;
      number = found_number t z;
      span = λ n h. span_of (lookup t n) (every_ticket_elim t z is_grant live_grant (λ m k. span_ok k) rule2 n h);
      child = child_of;
      chain = λ n h. ends_of (parent_of (lookup t)) (λ m. is_head (lookup t m).kind ≡ true) no_head 64 n (head_found n h);
      dock = λ n h. eq_name_true (lookup t n).dock n (every_ticket_elim t z is_head live_head (λ m k. eq_name k.dock m) rule4 n h);
      entry_name = found_name t z;
      entry = entry_of_lem;
      under = under_of;
      entry_chain = λ n l. ends_of (entry_parent (entry_of t)) (λ m. (entry_of t m).live ≡ true) no_entry_lem 256 n (root_found n l);
      roots = roots_of;
      taken = every_ticket_elim t z is_taken live_taken (λ m k. (entry_of t m).live) rule5_taken;
      recall = recall_of;
      near = near_of;
      far = λ n h p. far_given t _ _ _ (far_test n h p);
      far_entry = λ n h p. far_entry_lem t _ _ _ (far_test n h p);
      once = once_of;
      recalled = recalled_of;
      no_far = λ n h p. far_no_child t _ _ _ (far_test n h p);
      lent = lent_of;
    };
  }
