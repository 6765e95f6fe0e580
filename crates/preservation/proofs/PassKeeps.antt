-- Pass keeps the order, on the same pad and to another. It is an instance of the insertion theorem with two new names: x, a recall of the
-- asker's, and y, a child or a received grant of the recipient's.
use Prim.Native.Nat.{ℕ, suc, ◌+◌, ◌≤◌}
use native.Mathlib.Omega.{arith}
use mathlib.Core.Path.{◌≡◌, refl, sym, ap, ◌∙◌, subst}
use mathlib.Core.Logic.{◌⊎◌, inl, inr}
use mathlib.Core.Bool.{true, false}
use lib.Dec.{eqb}
use borrow.Author.Tests.{eqb-true, eqb-false}
use Rattle.lists.proofs.Tests.{Case, pass, fail, case, no_true, contradiction}
use Rattle.rights.specs.Rules.{rights_of, pass_on, can_pass}
use Rattle.rights.proofs.Rules.{within_trans}
use Rattle.tables.specs.declared.{Name.Name, Ticket.Ticket, Program.Program, Entry.Entry, Tables.Tables}
use Rattle.tables.specs.declared.Kind.TheVariants.{Received}
use Rattle.tables.specs.Names.{eq_name, is_none, same_program}
use Rattle.tables.specs.Lookup.{last_of, lookup, entry_of}
use Rattle.tables.specs.Chains.{parent_by, parent_of, entry_parent}
use Rattle.tables.proofs.KindLaws.{live_grant, live_child}
use Rattle.tables.proofs.NameLaws.{eq_name_true, eq_name_ne, program_same, program_apart}
use Rattle.machine.specs.declared.Request.{Request}
use Rattle.machine.specs.State.{asked_name}
use Rattle.machine.specs.Pass.{pass_tables}
use Rattle.preservation.specs.Rules.{Span, Inside, Given, NearOk, FarOk, UnderOk, Ends, up}
use Rattle.preservation.specs.InOrder.{InOrder}
use Rattle.preservation.proofs.SheetTests.{inside_trans}
use Rattle.preservation.proofs.Walks.{ends_kept}
use Rattle.preservation.proofs.RuleFacts.{grant_named, parent_live}
use Rattle.preservation.proofs.Insertion.{NewTicket, NewEntry, Inserted, order_inserted}
use Rattle.preservation.proofs.ChainSteps.{has_chain, dock_named, within_entry}
use Rattle.preservation.proofs.NewNames.{past_given, not_past, not_past_entry, new_head}
use Rattle.preservation.proofs.Passing.{MayPass, recall_name, grant_name, new_recall, new_child, new_received, new_entry, PassEffect, pass_near, pass_near_entries, pass_far, pass_far_entry}
use Rattle.tables.specs.Kinds.{is_live, is_child, is_recall}

module _ (t : Tables) (ok : InOrder t) (r : Request) (may : MayPass t r) where
  abbrev a : Name
  a = asked_name r

  abbrev k : Ticket
  k = lookup t a

  abbrev x : Name
  x = recall_name t r

  abbrev y : Name
  y = grant_name t r

  abbrev t' : Tables
  t' = pass_tables t r

  span : Span (k.first + r.first) r.count (rights_of r.rights)
  span = record { some = may.some; fits = omega (arith, may.fit, (ok.rules.span a may.grant).fits); right = may.right; rights = may.rights }

  part : Inside (k.first + r.first) r.count (rights_of r.rights) k.first k.count k.rights
  part = record { from = omega arith; to = omega (arith, may.fit); rights = may.within }

  -- ---- what both kinds of pass have in common; c is the new grant
  module _ (c : Ticket) (plain : is_recall c.kind ≡ false) (own : c.number ≡ y.number) (effect : PassEffect t t' r c) where
    kept : (n : Name) → is_live (lookup t n).kind ≡ true → lookup t' n ≡ lookup t n
    kept n l = effect.tickets n (not_past t ok x refl n l) (not_past t ok y refl n l)

    at_a : lookup t' a ≡ k
    at_a = kept a (live_grant k.kind may.grant)

    last_y : last_of t' r.topad r.toprogram ≡ y.number
    last_y = effect.recipient.last ∙ own

    grown : (p q : ℕ) → last_of t p q ≤ last_of t' p q
    grown p q = go (case (same_program p q r.pad r.program)) (case (same_program p q r.topad r.toprogram))
      where
        go : Case (same_program p q r.pad r.program) → Case (same_program p q r.topad r.toprogram) → last_of t p q ≤ last_of t' p q
        go (pass h) _ = let w = program_same p q r.pad r.program h in rw (w.pad, w.program, effect.asker.last) (omega arith)
        go (fail g) (pass h) = let w = program_same p q r.topad r.toprogram h in rw (w.pad, w.program, last_y) (omega arith)
        go (fail g) (fail h) =
            let w : last_of t' p q ≡ last_of t p q = ap (λ (z : Program). z.last) (effect.programs p q g h) in
            rw w (omega arith)

    given_x : Given (last_of t') x
    given_x = record { pad = may.pad; program = may.program; low = omega arith; high = rw effect.asker.last (omega arith) }

    given_y : Given (last_of t') y
    given_y = record { pad = may.topad; program = may.toprogram; low = omega arith; high = rw last_y (omega arith) }

    -- no old recall names y
    old_target : (m : Name) → is_recall (lookup t m).kind ≡ true → (lookup t m).other ≡ y → ⊥
    old_target m h e = go (case (eqb (lookup t m).other.pad m.pad))
      where
        go : Case (eqb (lookup t m).other.pad m.pad) → ⊥
        go (pass p) =
            not_past t ok y refl (lookup t m).other
            (live_child (lookup t (lookup t m).other).kind (ok.rules.near m h (eqb-true (lookup t m).other.pad m.pad p)).child) e
        go (fail p) = past_given t ok y refl (rw e at (ok.rules.far m h (eqb-false (lookup t m).other.pad m.pad p)))

    once_x : (m : Name) → is_recall (lookup t' m).kind ≡ true → y ≡ (lookup t' m).other → Case (eq_name m x) → Case (eq_name m y) → x ≡ m
    once_x m h e (pass p) _ = sym (eq_name_true m x p)
    once_x m h e (fail p) (pass q) =
        contradiction (ap (λ (z : Ticket). is_recall z.kind) (sym (ap (lookup t') (eq_name_true m y q) ∙ effect.grant)) ∙ h) plain
    once_x m h e (fail p) (fail q) =
        let s : lookup t' m ≡ lookup t m = effect.tickets m (eq_name_ne m x p) (eq_name_ne m y q) in
        absurd (old_target m (rw s at h) (ap (λ (z : Ticket). z.other) (sym s) ∙ sym e))

    -- the new recall keeps the rules, if its target does
    new_recall_lem : (y.pad ≡ x.pad → NearOk x (new_recall t r) (lookup t' y))
        → ((y.pad ≡ x.pad → ⊥) → (entry_of t' y).live ≡ true → FarOk (lookup t' a) (entry_of t' y))
        → ((y.pad ≡ x.pad → ⊥) → is_child (lookup t' y).kind ≡ false)
        → NewTicket (lookup t') (entry_of t') (last_of t') x
    new_recall_lem near far no_far =
        let at_x = effect.recall in
        record {
          named = given_x;
          number = rw at_x;
          span = λ h. no_true (rw at_x at h);
          child = λ h. no_true (rw at_x at h);
          chain = λ h. no_true (rw at_x at h);
          recalled = λ h. no_true (rw at_x at h);
          dock = λ h. no_true (rw at_x at h);
          taken = λ h. no_true (rw at_x at h);
          recall = rw at_x λ h. rw at_a (record { grant = may.grant; pass = may.may });
          near = rw at_x λ h. near;
          far = rw at_x λ h p. given_y;
          far_entry = rw at_x λ h. far;
          no_far = rw at_x λ h. no_far;
          once = rw at_x λ h m g e. once_x m g e (case (eq_name m x)) (case (eq_name m y));
        }

    not_given : (n z : Name) → z.number ≡ suc (last_of t z.pad z.program) → Given (last_of t) n → n ≡ z → ⊥
    not_given n z past g q = past_given t ok z past (subst (Given (last_of t)) q g)

    inserted : NewTicket (lookup t') (entry_of t') (last_of t') x → NewTicket (lookup t') (entry_of t') (last_of t') y
        → ((n : Name) → (entry_of t' n).live ≡ true → ((entry_of t n).live ≡ true) ⊎ NewEntry (lookup t') (entry_of t') n)
        → Inserted (lookup t) (lookup t') (entry_of t) (entry_of t') (last_of t) (last_of t')
    inserted new_x new-y new_entries = record {
      tickets_kept = kept;
      entries_kept = λ n l. effect.entries n (not_past_entry t ok y refl n l);
      lasts_grow = grown;
      tickets_new = λ n l. new n l (case (eq_name n x)) (case (eq_name n y));
      entries_new = new_entries;
      tickets_fresh = λ n g l. rw (effect.tickets n (not_given n x refl g) (not_given n y refl g)) at l;
      entries_fresh = λ n g l. rw (effect.entries n (not_given n y refl g)) at l;
    }
      where
        new : (n : Name) → is_live (lookup t' n).kind ≡ true → Case (eq_name n x) → Case (eq_name n y)
            → (is_live (lookup t n).kind ≡ true) ⊎ NewTicket (lookup t') (entry_of t') (last_of t') n
        new n l (pass h) _ = inr (rw (eq_name_true n x h) new_x)
        new n l (fail g) (pass h) = inr (rw (eq_name_true n y h) new-y)
        new n l (fail g) (fail h) = inl (rw (effect.tickets n (eq_name_ne n x g) (eq_name_ne n y h)) at l)

  -- ---- on the same pad
  module _ (same : r.pad ≡ r.topad) where
    near : PassEffect t t' r (new_child t r)
    near = pass_near t ok r may same

    near_kept : (n : Name) → is_live (lookup t n).kind ≡ true → lookup t' n ≡ lookup t n
    near_kept = kept (new_child t r) refl refl near

    near_x : NewTicket (lookup t') (entry_of t') (last_of t') x
    near_x =
        new_recall_lem (new_child t r) refl refl near (λ p. rw near.grant (record { child = refl; parent = refl }))
        (λ p. absurd (p (sym same))) (λ p. absurd (p (sym same)))

    -- the child's chain is its parent's and one link more
    child_chain : (d : ℕ) × Ends (parent_of (lookup t')) y d
    child_chain =
        let l = live_grant k.kind may.grant in
        let c = has_chain t ok a l in
        let up_y : parent_of (lookup t') y ≡ a = ap (λ (z : Ticket). parent_by z.kind y z) near.grant in
        let old : Ends (parent_of (lookup t')) a c.0
        = ends_kept (λ m. is_live (lookup t m).kind ≡ true) (λ m h. parent_live (lookup t) (entry_of t) (last_of t) ok.rules m)
        (λ m h. ap (λ (z : Ticket). parent_by z.kind m z) (near_kept m h)) l c.1 in (
          suc c.0,
          up {n = y} {d = c.0} (ap is_none up_y ∙ grant_named (lookup t) (entry_of t) (last_of t) ok.rules a may.grant)
              (subst (λ (m : Name). Ends (parent_of (lookup t')) m c.0) (sym up_y) old),
        )

    near_y : NewTicket (lookup t') (entry_of t') (last_of t') y
    near_y =
        let at_y = near.grant in
        record {
          named = given_y (new_child t r) refl refl near;
          number = rw at_y;
          span = rw at_y λ h. span;
          child = rw at_y λ h.
              rw (at_a (new_child t r) refl refl near)
              (record { grant = may.grant; pad = same; program = other_program; pass = may.may; inside = part; dock = refl });
          chain = λ h. child_chain;
          recalled = λ h. record { by = x; recall = rw near.recall; target = rw near.recall };
          dock = λ h. no_true (rw at_y at h);
          taken = λ h. no_true (rw at_y at h);
          recall = λ h. no_true (rw at_y at h);
          near = λ h. no_true (rw at_y at h);
          far = λ h. no_true (rw at_y at h);
          far_entry = λ h. no_true (rw at_y at h);
          no_far = λ h. no_true (rw at_y at h);
          once = λ h. no_true (rw at_y at h);
        }
      where
        other_program : r.program ≡ r.toprogram → ⊥
        other_program e = program_apart r.pad r.program r.topad r.toprogram may.differ same e

    near_keeps : InOrder t'
    near_keeps =
        order_inserted t t' ok near.shape
        (inserted (new_child t r) refl refl near near_x near_y (λ n l. inl (rw (pass_near_entries t ok r may same n) at l)))

  -- ---- to another pad
  module _ (away : r.pad ≡ r.topad → ⊥) where
    far : PassEffect t t' r (new_received t r)
    far = pass_far t ok r may away

    at_entry : entry_of t' y ≡ new_entry t r
    at_entry = pass_far_entry t ok r may away

    named : is_none k.dock ≡ false
    named = dock_named t ok a may.grant

    known : (entry_of t k.dock).live ≡ true
    known = may.known away

    far_x : NewTicket (lookup t') (entry_of t') (last_of t') x
    far_x =
        new_recall_lem (new_received t r) refl refl far (λ p. absurd (away (sym p)))
        (λ p l. rw (at_a (new_received t r) refl refl far, at_entry) (record { parent = refl; inside = part })) (λ p. rw far.grant)

    far_y : NewTicket (lookup t') (entry_of t') (last_of t') y
    far_y =
        new_head (lookup t') (entry_of t') (last_of t') y Received (k.first + r.first) r.count (rights_of r.rights) far.grant refl refl
        (given_y (new_received t r) refl refl far) span (λ h. no_true h)

    -- the entry of the ticket's dock name contains the ticket, and so the new entry
    entry_contains : Inside k.first k.count k.rights (entry_of t k.dock).first (entry_of t k.dock).count (entry_of t k.dock).rights
    entry_contains = within_entry t ok a may.grant known

    entry_may : can_pass (entry_of t k.dock).rights ≡ true
    entry_may = within_trans pass_on k.rights (entry_of t k.dock).rights may.may entry_contains.rights

    under_dock : UnderOk (new_entry t r) (entry_of t' k.dock)
    under_dock =
        rw (far.entries k.dock (not_past_entry t ok y refl k.dock known))
        (record { live = known; pass = entry_may; inside = inside_trans part entry_contains })

    -- the entry's chain is that of the dock name's entry and one link more
    entry_chain_lem : (d : ℕ) × Ends (entry_parent (entry_of t')) y d
    entry_chain_lem =
        let c = ok.rules.entry_chain k.dock known in
        let up_y : (entry_of t' y).parent ≡ k.dock = ap (λ (z : Entry). z.parent) at_entry in
        let old : Ends (entry_parent (entry_of t')) k.dock c.0
        = ends_kept (λ m. (entry_of t m).live ≡ true) (λ m l z. (ok.rules.under m l z).live)
        (λ m l. ap (λ (z : Entry). z.parent) (far.entries m (not_past_entry t ok y refl m l))) known c.1 in (
          suc c.0,
          up {n = y} {d = c.0} (ap is_none up_y ∙ named) (subst (λ (m : Name). Ends (entry_parent (entry_of t')) m c.0) (sym up_y) old),
        )

    new_entry_y : NewEntry (lookup t') (entry_of t') y
    new_entry_y = record {
      entry_name = rw at_entry;
      entry =
          rw (at_entry, far.grant)
          (record { taken = λ z. contradiction z named; store = λ z. contradiction z named; received = λ z. refl; first = refl; count = refl; rights = refl });
      under = rw at_entry λ z. under_dock;
      entry_chain = entry_chain_lem;
      lent = λ z. record { by = x; recall = rw far.recall; target = rw far.recall };
      roots = λ z. contradiction (rw at_entry at z) named;
    }

    new_entries : (n : Name) → (entry_of t' n).live ≡ true → Case (eq_name n y) → ((entry_of t n).live ≡ true) ⊎ NewEntry (lookup t') (entry_of t') n
    new_entries n l (pass h) = inr (rw (eq_name_true n y h) new_entry_y)
    new_entries n l (fail h) = inl (rw (far.entries n (eq_name_ne n y h)) at l)

    far_keeps : InOrder t'
    far_keeps =
        order_inserted t t' ok far.shape (inserted (new_received t r) refl refl far far_x far_y (λ n l. new_entries n l (case (eq_name n y))))

  pub pass_keeps : InOrder t'
  pass_keeps = go (case (eqb r.pad r.topad))
    where
      go : Case (eqb r.pad r.topad) → InOrder t'
      go (pass h) = near_keeps (eqb-true r.pad r.topad h)
      go (fail h) = far_keeps (eqb-false r.pad r.topad h)
