-- Tables in order pass the test: from the proposition T1 to T6 to the Bool `in_order`, rule by rule. With TestMeansOrder.antt this says that
-- the test is the proposition.
use Prim.Native.Nat.{ℕ, ◌<◌}
use mathlib.Core.Path.{◌≡◌, sym, ap, subst}
use mathlib.Core.Bool.{true, false, not, ◌&&◌, cond}
use lib.Dec.{eqb}
use lib.ListN.{length}
use borrow.Author.Tests.{eqb-true, eqb-false, eq-eqb, ne_eqb, not-true}
use Rattle.lists.specs.Tests.{implies, between}
use Rattle.lists.specs.Lists.{all}
use Rattle.lists.proofs.Tests.{Case, pass, fail, case, and_l, and_r, and_intro, not_test, implies_intro, between_test}
use Rattle.lists.proofs.Everywhere.{all_intro}
use Rattle.lists.proofs.Keyed.{distinct_test_lem, keys_no_two}
use Rattle.rights.specs.declared.Rights.{Rights}
use Rattle.tables.specs.declared.{Name.Name, Ticket.Ticket, Entry.Entry, Tables.Tables}
use Rattle.tables.specs.Names.{no_name, name_of, eq_name, free, no_program, no_pad}
use Rattle.tables.specs.Lookup.{pad_at, program_at, tickets_of, last_of, lookup, is_named, entry_in, entry_of}
use Rattle.tables.specs.Chains.{own_name, entry_parent, chain_root}
use Rattle.tables.specs.Sheets.{apart}
use Rattle.tables.specs.Order.{is_recalled, numbers_ok, t1, span_ok, t2, parent_ok, child_ok, t3, t4, entry_names_ok, under_store, grant_ok, parent_entry_ok, entry_ok, roots_ok, t5, recall_parent_ok, is_child_of, far_target_ok, target_ok, recall_ok, t6, in_order}
use Rattle.tables.proofs.KindLaws.{live_grant, live_child, live_recall, live_head, live_taken, child_grant}
use Rattle.tables.proofs.NameLaws.{eq_name_true, eq_name_test, program_possible}
use Rattle.tables.proofs.Keys.{ticket_keys, entry_keys, ticket_laws, entry_laws}
use Rattle.tables.proofs.ByPlace.{ticket_at}
use Rattle.preservation.specs.Rules.{Given, ChildOk, RecallOk, NearOk, FarOk, Recalled, EntryOk, UnderOk}
use Rattle.preservation.specs.InOrder.{InOrder}
use Rattle.preservation.proofs.SheetTests.{inside_test, span_test, apart_test}
use Rattle.preservation.proofs.Walks.{end_good}
use Rattle.preservation.proofs.Places.{entry_chain_short}
use Rattle.preservation.proofs.ChainSteps.{head_is_dock, dock_head}
use Rattle.preservation.proofs.TestsByName.{at_name, every_ticket_intro, every_entry_intro, some_ticket_intro}
use Rattle.tables.specs.Kinds.{is_live, is_grant, is_head, is_taken, is_received, is_child, is_recall}

-- ---- the parts of a rule, each to its test
parent_test : (n : Name) (k p : Ticket) → ChildOk n k p → parent_ok n k p ≡ true
unfolding parent_ok
parent_test n k p c =
    and_intro (and_intro (and_intro (and_intro (and_intro c.grant (eq-eqb k.other.pad n.pad c.pad))
    (not_test (eqb k.other.program n.program) (ne_eqb k.other.program n.program c.program))) c.pass)
    (inside_test _ _ _ _ _ _ c.inside)) (eq_name_test k.dock p.dock c.dock)

grant_test : (e : Entry) (k : Ticket) → EntryOk e k → grant_ok e k ≡ true
unfolding grant_ok
grant_test e k o =
    and_intro (and_intro (and_intro (go (case (under_store e))) (eq-eqb k.first e.first o.first)) (eq-eqb k.count e.count o.count))
    (eq-eqb k.rights.bits e.rights.bits (ap (λ (r : Rights). r.bits) o.rights))
  where
    go : Case (under_store e) → cond (under_store e) (eq_name e.parent no_name && is_taken k.kind) (is_received k.kind) ≡ true
    go (pass z) = rw z (and_intro (eq_name_test e.parent no_name (o.store z)) (o.taken z))
    go (fail z) = rw z (o.received z)

parent_entry_test : (e p : Entry) → UnderOk e p → parent_entry_ok e p ≡ true
unfolding parent_entry_ok
parent_entry_test e p u = and_intro (and_intro u.live u.pass) (inside_test _ _ _ _ _ _ u.inside)

far_test : (t : Tables) (x : Name) (p : Ticket) (e : Entry) → Given (last_of t) x → (e.live ≡ true → FarOk p e) → is_child (lookup t x).kind ≡ false
    → far_target_ok t x p e ≡ true
unfolding far_target_ok
far_test t x p e g f c =
    and_intro (and_intro (and_intro (program_possible x.pad x.program g.pad g.program) (between_test 1 _ x.number g.low g.high))
    (not_test (is_child (lookup t x).kind) c))
    (implies_intro e.live _ (λ l. and_intro (eq_name_test e.parent p.dock (f l).parent) (inside_test _ _ _ _ _ _ (f l).inside)))

module _ (t : Tables) (ok : InOrder t) where
  -- ---- T1
  number_test : (p q i : ℕ) → p < 4 → q < 8 → i < length (tickets_of t p q) → is_live (ticket_at t p q i).kind ≡ true
      → between 1 (last_of t p q) (ticket_at t p q i).number ≡ true
  number_test p q i b c d l =
      let g : Given (last_of t) (name_of p q (ticket_at t p q i).number)
      = ok.rules.named (name_of p q (ticket_at t p q i).number) (rw (at_name t ok.shape p q i b c d l) l) in
      between_test 1 (last_of t p q) (ticket_at t p q i).number g.low g.high

  numbers_test : (p q : ℕ) → p < 4 → q < 8 → numbers_ok (program_at t p q) ≡ true
  unfolding numbers_ok
  numbers_test p q b c =
      and_intro (distinct_test_lem ticket_keys ticket_laws (tickets_of t p q) (ok.shape.distinct p q b c))
      (all_intro free (λ k. implies (is_live k.kind) (between 1 (last_of t p q) k.number)) (tickets_of t p q)
      (λ i d. implies_intro (is_live (ticket_at t p q i).kind) _ (number_test p q i b c d)))

  t1_test : t1 t ≡ true
  unfolding t1
  t1_test =
      all_intro no_pad (λ a. all numbers_ok a.programs) t.pads
      (λ p b.
      let b' : p < 4 = rw ok.shape.sized.pads at b in
      all_intro no_program numbers_ok (pad_at t p).programs (λ q c. numbers_test p q b' (rw (ok.shape.sized.programs p b') at c)))

  -- ---- T2
  t2_test : t2 t ≡ true
  unfolding t2
  t2_test = every_ticket_intro t ok.shape is_grant live_grant (λ n k. span_ok k) (λ n h. span_test (lookup t n) (ok.rules.span n h))

  -- ---- T3
  t3_test : t3 t ≡ true
  unfolding t3 child_ok
  t3_test =
      every_ticket_intro t ok.shape is_child live_child (child_ok t)
      (λ n h.
      let g = child_grant (lookup t n).kind h in
      and_intro (parent_test n (lookup t n) (lookup t (lookup t n).other) (ok.rules.child n h)) (rw (head_is_dock t ok n g) (dock_head t ok n g)))

  -- ---- T4
  t4_test : t4 t ≡ true
  unfolding t4
  t4_test = every_ticket_intro t ok.shape is_head live_head (λ n k. eq_name k.dock n) (λ n h. eq_name_test (lookup t n).dock n (ok.rules.dock n h))

  -- ---- T5
  entry_names_test : entry_names_ok t ≡ true
  unfolding entry_names_ok
  entry_names_test = distinct_test_lem entry_keys entry_laws t.entries ok.shape.distinct_entries

  root_test : (n : Name) → (entry_of t n).live ≡ true → (entry_of t (chain_root t n)).live ≡ true
  root_test n l =
      let c = ok.rules.entry_chain n l in
      end_good (entry_parent (entry_of t)) (λ m. (entry_of t m).live ≡ true) (λ m k z. (ok.rules.under m k z).live) c.1 256 (entry_chain_short t ok l c.1) l

  entry_test : (n : Name) → (entry_of t n).live ≡ true → entry_ok t (entry_of t n) ≡ true
  unfolding entry_ok
  entry_test n l =
      let e : (entry_of t n).name ≡ n = ok.rules.entry_name n l in
      and_intro
      (and_intro
      (subst (λ (m : Name). grant_ok (entry_of t n) (lookup t m) ≡ true) (sym e) (grant_test (entry_of t n) (lookup t n) (ok.rules.entry n l)))
      (implies_intro (not (under_store (entry_of t n))) _
      (λ z. parent_entry_test (entry_of t n) (entry_of t (entry_of t n).parent) (ok.rules.under n l (not-true (under_store (entry_of t n)) z)))))
      (subst (λ (m : Name). (entry_of t (chain_root t m)).live ≡ true) (sym e) (root_test n l))

  roots_test : roots_ok t ≡ true
  unfolding roots_ok entry_in is_named
  roots_test =
      keys_no_two entry_keys entry_laws (λ e. e.live && under_store e) (λ e other. not (apart e.first e.count other.first other.count))
      (λ e. and_l e.live _) t.entries ok.shape.distinct_entries
      (λ n m ne h k. rw (apart_test _ _ _ _
      (ok.rules.roots n m (and_l (entry_of t n).live _ h) (and_l (entry_of t m).live _ k) (and_r (entry_of t n).live _ h) (and_r (entry_of t m).live _ k) ne)))

  t5_test : t5 t ≡ true
  unfolding t5
  t5_test =
      and_intro (and_intro (and_intro entry_names_test (every_entry_intro t ok.shape (entry_ok t) entry_test)) roots_test)
      (every_ticket_intro t ok.shape is_taken live_taken (λ n k. (entry_of t n).live) ok.rules.taken)

  -- ---- T6
  target_test : (n : Name) → is_recall (lookup t n).kind ≡ true → target_ok t n (lookup t n) ≡ true
  unfolding target_ok is_child_of
  target_test n h = go (case (eqb (lookup t n).other.pad n.pad))
    where
      go : Case (eqb (lookup t n).other.pad n.pad) → target_ok t n (lookup t n) ≡ true
      go (pass p) =
          let k : NearOk n (lookup t n) (lookup t (lookup t n).other) = ok.rules.near n h (eqb-true (lookup t n).other.pad n.pad p) in
          rw p (and_intro k.child (eq_name_test _ _ k.parent))
      go (fail p) =
          let away = eqb-false (lookup t n).other.pad n.pad p in
          rw p (far_test t (lookup t n).other (lookup t (own_name n (lookup t n))) (entry_of t (lookup t n).other) (ok.rules.far n h away) (ok.rules.far_entry n h away) (ok.rules.no_far n h away))

  recall_test : (n : Name) → is_recall (lookup t n).kind ≡ true → recall_ok t n (lookup t n) ≡ true
  unfolding recall_ok recall_parent_ok
  recall_test n h =
      let c : RecallOk (lookup t (own_name n (lookup t n))) = ok.rules.recall n h in
      and_intro (and_intro (and_intro c.grant c.pass) (target_test n h))
      (every_ticket_intro t ok.shape is_recall live_recall (λ m other. implies (eq_name other.other (lookup t n).other) (eq_name m n))
      (λ m k. implies_intro (eq_name (lookup t m).other (lookup t n).other) (eq_name m n)
      (λ w. eq_name_test m n (ok.rules.once m n k h (eq_name_true (lookup t m).other (lookup t n).other w)))))

  recalled_test : (n : Name) → Recalled (lookup t) n → is_recalled t n ≡ true
  recalled_test n r =
      some_ticket_intro t ok.shape.sized is_recall live_recall (λ m recall. eq_name recall.other n) r.by r.recall
      (eq_name_test (lookup t r.by).other n r.target)

  lent_test : (n : Name) → (entry_of t n).live ≡ true → implies (not (under_store (entry_of t n))) (is_recalled t (entry_of t n).name) ≡ true
  lent_test n l =
      implies_intro (not (under_store (entry_of t n))) _
      (λ z. subst (λ (m : Name). is_recalled t m ≡ true) (sym (ok.rules.entry_name n l))
      (recalled_test n (ok.rules.lent n l (not-true (under_store (entry_of t n)) z))))

  t6_test : t6 t ≡ true
  unfolding t6
  t6_test =
      and_intro
      (and_intro (every_ticket_intro t ok.shape is_recall live_recall (recall_ok t) recall_test)
      (every_ticket_intro t ok.shape is_child live_child (λ n k. is_recalled t n) (λ n h. recalled_test n (ok.rules.recalled n h))))
      (every_entry_intro t ok.shape (λ e. implies (not (under_store e)) (is_recalled t e.name)) lent_test)

  pub order_passes_test : in_order t ≡ true
  unfolding in_order
  order_passes_test = and_intro (and_intro (and_intro (and_intro (and_intro t1_test t2_test) t3_test) t4_test) t5_test) t6_test
