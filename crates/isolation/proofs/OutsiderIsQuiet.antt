-- What an outsider does, the group does not notice: a request from outside the group that is no pass across its edge leaves the group's
-- programs, entries and bytes exactly as they were. One lemma for each operation and for the drop on 12. That the dock is in order
-- afterwards is known (preservation) and handed to each.
use Prim.Native.Nat.{ℕ, ◌+◌, ◌*◌, ◌≤◌, ◌<◌}
use native.Mathlib.Omega.{arith}
use mathlib.Core.Path.{◌≡◌, refl, sym, ap, ◌∙◌, subst}
use mathlib.Core.Logic.{◌⊎◌, inl, inr}
use mathlib.Core.Bool.{Bool, true, false, cond}
use mathlib.Core.List.{map}
use lib.Dec.{eqb}
use lib.ListN.{length, get_or, replicate, length-replicate, length-map}
use lib.Seq.{ext_get_or}
use borrow.Author.Tests.{eqb-true, eqb-false}
use Rattle.lists.proofs.Tests.{Case, pass, fail, case, no_true, cannot_pass}
use Rattle.lists.proofs.Keyed.{found_somewhere, drop_none, dropped_at}
use Rattle.tables.specs.declared.{Name.Name, Entry.Entry, Tables.Tables}
use Rattle.tables.specs.Names.{name_of, eq_name, same_program, free, no_entry}
use Rattle.tables.specs.Lookup.{program_at, tickets_of, has_number, ticket_in, lookup, entry_of}
use Rattle.tables.specs.Chains.{at_or_under, chain_head, at_or_below}
use Rattle.tables.specs.Change.{drop_ticket, drop_in_program, drop_tickets, drop_entries}
use Rattle.tables.proofs.NameLaws.{eq_name_false, program_ne}
use Rattle.tables.proofs.Keys.{ticket_keys, ticket_laws}
use Rattle.tables.proofs.ByPlace.{ticket_at}
use Rattle.machine.specs.declared.Request.{Request}
use Rattle.machine.specs.State.{State, accepted, refused, with_tables, clear_sheets, asked_name, asked}
use Rattle.machine.specs.Operation.{Operation, taking, passing, recalling, giving_back, reading, writing, operation_of, used_by, fields_ok}
use Rattle.machine.specs.Take.{take_tables, after_take}
use Rattle.machine.specs.Pass.{pass_tables, after_pass}
use Rattle.machine.specs.Recall.{lent_away, goes_with, recall_tables, after_recall}
use Rattle.machine.specs.GiveBack.{give_back_tables, after_give_back}
use Rattle.machine.specs.Access.{sheet_of, after_read, after_write}
use Rattle.machine.specs.Step.{own_refusal, request_refusal, after_own, drop_head, outcome, serve}
use Rattle.machine.specs.Sequence.{Group, from_group, crosses}
use Rattle.machine.specs.Isolation.{owns, Unlinked}
use Rattle.preservation.specs.Rules.{Inside, Apart, EntryOk}
use Rattle.preservation.specs.InOrder.{InOrder, DockOk}
use Rattle.preservation.proofs.SheetTests.{apart_sym, beside}
use Rattle.preservation.proofs.AfterChange.{removed, entry_removed, no_entry_there}
use Rattle.preservation.proofs.ChainSteps.{head_is_dock, within_entry, entry_fits_lem}
use Rattle.tables.proofs.Keys.{drop_no_entry}
use Rattle.preservation.proofs.LentAway.{lent_from}
use Rattle.tables.proofs.KindLaws.{live_recall}
use Rattle.preservation.proofs.Taking.{MayTake, TakeEffect, take_effect}
use Rattle.preservation.proofs.Passing.{MayPass, grant_name, pass_near, pass_near_entries, pass_far}
use Rattle.preservation.proofs.Preconditions.{number_of, Past, past_request, late_0, late_12, may_take, may_pass, may_recall, may_give_back, MayUse, may_use, Stale, stale_of}
use Rattle.preservation.proofs.StoreSheets.{sheet_kept}
use Rattle.preservation.proofs.StepKeepsOrder.{serve_keeps_dock}
use Rattle.isolation.specs.Alike.{Parted, Quiet}
use Rattle.isolation.proofs.Edge.{is_outside, on_one_side}
use Rattle.isolation.proofs.Sides.{dock_side, not_under, not_below, lender_side, sides_apart}
use Rattle.isolation.proofs.AlikeFacts.{mine_low}
use Rattle.isolation.proofs.UnlinkedKept.{unlinked_removed, unlinked_take, unlinked_near, unlinked_far}
use Rattle.tables.specs.Kinds.{is_live, is_taken, is_recall}
use Rattle.tables.proofs.Programs.{dropped_program}
use Rattle.best_fit.specs.BestFit.{best_fit}
use Rattle.best_fit.proofs.Laws.{best_fits}

-- ---- removal that spares the group
cond_both : {A : Type 0} (b : Bool) (x : A) → cond b x x ≡ x
cond_both true x = refl
cond_both false x = refl

module _ (g : Group) (t : Tables) (gone cut : Name → Bool)
    (spare : (n : Name) → owns g n ≡ true → is_live (lookup t n).kind ≡ true → gone n ≡ false)
    (uncut : (n : Name) → owns g n ≡ true → (entry_of t n).live ≡ true → cut n ≡ false) where
  kept_ticket : (p q i : ℕ) → g p q ≡ true → i < length (tickets_of t p q) → drop_ticket gone p q (ticket_at t p q i) ≡ ticket_at t p q i
  unfolding drop_ticket lookup ticket_in has_number
  kept_ticket p q i h b =
      drop_none ticket_keys ticket_laws (λ m. gone (name_of p q m)) (ticket_at t p q i)
      (λ l. spare (name_of p q (ticket_at t p q i).number) h (found_somewhere ticket_keys ticket_laws (tickets_of t p q) i b l))

  ticket_after : (p q i : ℕ) → get_or (map (drop_ticket gone p q) (tickets_of t p q)) i free ≡ drop_ticket gone p q (ticket_at t p q i)
  unfolding drop_ticket
  ticket_after p q i = dropped_at ticket_keys ticket_laws (λ m. gone (name_of p q m)) (tickets_of t p q) i

  kept_tickets : (p q : ℕ) → g p q ≡ true → map (drop_ticket gone p q) (tickets_of t p q) ≡ tickets_of t p q
  kept_tickets p q h =
      ext_get_or free (map (drop_ticket gone p q) (tickets_of t p q)) (tickets_of t p q) (length-map (tickets_of t p q) (drop_ticket gone p q))
      (λ i b. ticket_after p q i ∙ kept_ticket p q i h (subst (λ (m : ℕ). i < m) (length-map (tickets_of t p q) (drop_ticket gone p q)) b))

  kept_program : (p q : ℕ) → g p q ≡ true → program_at (removed gone cut t) p q ≡ program_at t p q
  unfolding drop_entries drop_in_program
  kept_program p q h = dropped_program gone t p q ∙ λ i. record { tickets = kept_tickets p q h i; last = (program_at t p q).last }

  kept_entry : (n : Name) → owns g n ≡ true → entry_of (removed gone cut t) n ≡ entry_of t n
  kept_entry n h = entry_removed gone cut t n ∙ go (case (entry_of t n).live)
    where
      go : Case (entry_of t n).live → cond (cut n) no_entry (entry_of t n) ≡ entry_of t n
      go (pass l) = rw (uncut n h l)
      go (fail l) = rw (no_entry_there t n l) (cond_both (cut n) no_entry)

-- ---- the operations of an outsider
module _ (g : Group) (s : State) (parted : Parted g s) where
  abbrev t : Tables
  t = s.tables

  abbrev ok : InOrder t
  ok = parted.dock.tables

  abbrev apart : Unlinked g t
  apart = parted.unlinked

  -- only the tables change
  quiet_tables : (t' : Tables) → DockOk (with_tables s t') → Unlinked g t' → ((p q : ℕ) → g p q ≡ true → program_at t' p q ≡ program_at t p q)
      → ((n : Name) → owns g n ≡ true → entry_of t' n ≡ entry_of t n) → Quiet g s (with_tables s t')
  unfolding with_tables
  quiet_tables t' dock b c d = record { after = record { dock = dock; unlinked = b }; programs = c; entries = d; bytes = λ n a m. refl }

  nothing : Quiet g s s
  nothing = record { after = parted; programs = λ p q h. refl; entries = λ n h. refl; bytes = λ n a m. refl }

  module _ (gone cut : Name → Bool) (spare : (n : Name) → owns g n ≡ true → is_live (lookup t n).kind ≡ true → gone n ≡ false)
      (uncut : (n : Name) → owns g n ≡ true → (entry_of t n).live ≡ true → cut n ≡ false) where
    quiet_removed : DockOk (with_tables s (removed gone cut t)) → Quiet g s (with_tables s (removed gone cut t))
    quiet_removed dock =
        quiet_tables (removed gone cut t) dock (unlinked_removed gone cut t g apart) (kept_program g t gone cut spare uncut) (kept_entry g t gone cut spare uncut)

  -- tickets alone are dropped
  quiet_dropped : (gone : Name → Bool) → DockOk (with_tables s (drop_tickets gone t)) → ((n : Name) → owns g n ≡ true → is_live (lookup t n).kind ≡ true → gone n ≡ false)
      → Quiet g s (with_tables s (drop_tickets gone t))
  quiet_dropped gone dock spare =
      let e = drop_no_entry (drop_tickets gone t) in
      subst (λ (b : Tables). Quiet g s (with_tables s b)) e
      (quiet_removed gone (λ n. false) spare (λ n h l. refl) (subst (λ (b : Tables). DockOk (with_tables s b)) (sym e) dock))

  module _ (r : Request) (out : g r.pad r.program ≡ false) where
    not_asker : (p q : ℕ) → g p q ≡ true → same_program p q r.pad r.program ≡ false
    not_asker p q h = program_ne p q r.pad r.program (λ a b. no_true (sym out ∙ ap (λ (m : ℕ). g m r.program) (sym a) ∙ ap (g p) (sym b) ∙ h))

    not_me : (n : Name) → owns g n ≡ true → eq_name n (asked_name r) ≡ false
    not_me n h = eq_name_false n (asked_name r) (λ e. no_true (sym out ∙ ap (owns g) (sym e) ∙ h))

    quiet_take : MayTake t r → DockOk (after_take s r).state → Quiet g s (after_take s r).state
    unfolding after_take accepted clear_sheets
    quiet_take may dock =
        let first = best_fit t.entries r.count in
        let e : TakeEffect t (take_tables t r) r _ (best_fit t.entries r.count) = take_effect t ok r may in
        record {
          after = record { dock = dock; unlinked = unlinked_take g t (take_tables t r) r _ _ e apart };
          programs = λ p q h. e.programs p q (not_asker p q h);
          entries = λ n h. e.entries n (λ w. no_true (sym out ∙ ap (owns g) (sym w) ∙ h));
          bytes = λ n a m.
              sheet_kept first r.count (replicate (64 * r.count) 0) s.store parted.dock.store (length-replicate _ 0)
              (best_fits t.entries r.count may.some may.run) ((entry_of t n).first + a) (mine_low g s parted m)
              (beside first r.count (entry_of t n).first (entry_of t n).count a (e.apart n m.live) m.low);
        }

    quiet_pass : g r.topad r.toprogram ≡ false → MayPass t r → DockOk (with_tables s (pass_tables t r)) → Quiet g s (with_tables s (pass_tables t r))
    quiet_pass away may dock = go (case (eqb r.pad r.topad))
      where
        tie : g r.topad r.toprogram ≡ g r.pad r.program
        tie = away ∙ sym out

        not_recipient : (p q : ℕ) → g p q ≡ true → same_program p q r.topad r.toprogram ≡ false
        not_recipient p q h =
            program_ne p q r.topad r.toprogram (λ a b. no_true (sym away ∙ ap (λ (m : ℕ). g m r.toprogram) (sym a) ∙ ap (g p) (sym b) ∙ h))

        not_new : (n : Name) → owns g n ≡ true → n ≡ grant_name t r → ⊥
        not_new n h w = no_true (sym away ∙ ap (owns g) (sym w) ∙ h)

        go : Case (eqb r.pad r.topad) → Quiet g s (with_tables s (pass_tables t r))
        go (pass h) =
            let same = eqb-true r.pad r.topad h in
            let e = pass_near t ok r may same in
            quiet_tables (pass_tables t r) dock (unlinked_near g t ok apart r may tie same)
            (λ p q o. e.programs p q (not_asker p q o) (not_recipient p q o)) (λ n o. pass_near_entries t ok r may same n)
        go (fail h) =
            let far = eqb-false r.pad r.topad h in
            let e = pass_far t ok r may far in
            quiet_tables (pass_tables t r) dock (unlinked_far g t ok apart r may tie far)
            (λ p q o. e.programs p q (not_asker p q o) (not_recipient p q o)) (λ n o. e.entries n (not_new n o))

    quiet_recall : is_recall (asked t r).kind ≡ true → DockOk (with_tables s (recall_tables t r)) → Quiet g s (with_tables s (recall_tables t r))
    unfolding recall_tables
    quiet_recall h dock = go (case (eqb (asked t r).other.pad r.pad))
      where
        away : owns g (asked t r).other ≡ false
        away = apart.target (asked_name r) h ∙ out

        stays : (n : Name) → owns g n ≡ true → is_live (lookup t n).kind ≡ true → goes_with t r n ≡ false
        stays n o l = rw (not_me n o) (not_under g t ok apart (asked t r).other away n o l)

        not_lent : (n : Name) → owns g n ≡ true → lent_away t (goes_with t r) n ≡ true → ⊥
        not_lent n o e =
            let f = lent_from t ok (goes_with t r) n e in
            no_true (sym (stays f.by (lender_side g t ok apart (goes_with t r) n o f) (live_recall (lookup t f.by).kind f.recall)) ∙ f.goes)

        go : Case (eqb (asked t r).other.pad r.pad) → Quiet g s (with_tables s (recall_tables t r))
        go (pass z) =
            rw z
            (quiet_removed (goes_with t r) (lent_away t (goes_with t r)) stays
            (λ n o l. cannot_pass (lent_away t (goes_with t r) n) (not_lent n o)) (rw z at dock))
        go (fail z) =
            rw z
            (quiet_removed (λ n. eq_name n (asked_name r)) (at_or_below t (asked t r).other) (λ n o l. not_me n o)
            (not_below g t ok apart (asked t r).other away) (rw z at dock))

    quiet_give_back : is_taken (asked t r).kind ≡ true → DockOk (after_give_back s r).state → Quiet g s (after_give_back s r).state
    unfolding after_give_back accepted clear_sheets give_back_tables
    quiet_give_back h dock = record {
      after = record { dock = dock; unlinked = unlinked_removed _ _ t g apart };
      programs = kept_program g t (at_or_under t (asked_name r)) (at_or_below t (asked_name r)) spare uncut;
      entries = kept_entry g t (at_or_under t (asked_name r)) (at_or_below t (asked_name r)) spare uncut;
      bytes = λ n a m.
          sheet_kept (asked t r).first (asked t r).count (replicate (64 * (asked t r).count) 0) s.store parted.dock.store (length-replicate _ 0) fits
          ((entry_of t n).first + a) (mine_low g s parted m)
          (rw (own.first, own.count)
          (beside (entry_of t (asked_name r)).first (entry_of t (asked_name r)).count (entry_of t n).first (entry_of t n).count a
          (apart_sym _ _ _ _ (sides_apart g t ok apart n (asked_name r) m.own out m.live live)) m.low));
    }
      where
        live : (entry_of t (asked_name r)).live ≡ true
        live = ok.rules.taken (asked_name r) h

        own : EntryOk (entry_of t (asked_name r)) (lookup t (asked_name r))
        own = ok.rules.entry (asked_name r) live

        fits : (asked t r).first + (asked t r).count ≤ 256
        fits = omega (arith, entry_fits_lem t ok (asked_name r) live, own.first, own.count)

        spare : (n : Name) → owns g n ≡ true → is_live (lookup t n).kind ≡ true → at_or_under t (asked_name r) n ≡ false
        spare = not_under g t ok apart (asked_name r) out

        uncut : (n : Name) → owns g n ≡ true → (entry_of t n).live ≡ true → at_or_below t (asked_name r) n ≡ false
        uncut = not_below g t ok apart (asked_name r) out

    quiet_read : Quiet g s (after_read s r).state
    unfolding after_read accepted
    quiet_read = record {
      after = record { dock = record { tables = parted.dock.tables; store = parted.dock.store }; unlinked = apart };
      programs = λ p q h. refl;
      entries = λ n h. refl;
      bytes = λ n a m. refl;
    }

    quiet_write : length s.sheet ≡ 64 → MayUse t r → DockOk (after_write s r).state → Quiet g s (after_write s r).state
    unfolding after_write accepted
    quiet_write buf may dock = record {
      after = record { dock = dock; unlinked = apart };
      programs = λ p q h. refl;
      entries = λ n h. refl;
      bytes = λ n a m.
          sheet_kept (sheet_of t r) 1 s.sheet s.store parted.dock.store buf fits ((entry_of t n).first + a) (mine_low g s parted m)
          (side (entry_of t n) a
          (sides_apart g t ok apart n (asked t r).dock m.own (dock_side g t ok apart (asked_name r) may.grant ∙ out) m.live may.known) m.low);
    }
      where
        i : Inside (asked t r).first (asked t r).count (asked t r).rights
            (entry_of t (asked t r).dock).first (entry_of t (asked t r).dock).count (entry_of t (asked t r).dock).rights
        i = within_entry t ok (asked_name r) may.grant may.known

        fits : sheet_of t r + 1 ≤ 256
        fits = omega (arith, may.low, (ok.rules.span (asked_name r) may.grant).fits)

        side : (e : Entry) (a : ℕ) → Apart e.first e.count (entry_of t (asked t r).dock).first (entry_of t (asked t r).dock).count → a < e.count
            → (e.first + a < sheet_of t r) ⊎ (sheet_of t r + 1 ≤ e.first + a)
        side e a (inl x) y = inl (omega (arith, i.from))
        side e a (inr x) y = inr (omega (arith, i.to, may.low))

    quiet_drop : Stale t r → DockOk (with_tables s (drop_head t r)) → Quiet g s (with_tables s (drop_head t r))
    unfolding drop_head
    quiet_drop l dock =
        let o : owns g (chain_head t (asked_name r)) ≡ false
        = ap (owns g) (head_is_dock t ok (asked_name r) l.grant) ∙ dock_side g t ok apart (asked_name r) l.grant ∙ out in
        quiet_dropped (at_or_under t (chain_head t (asked_name r))) dock (not_under g t ok apart (chain_head t (asked_name r)) o)

    quiet_own : length s.sheet ≡ 64 → (o : Operation) → r.pad ≤ 3 → r.program ≤ 7 → fields_ok (used_by o) r ≡ true
        → (number_of o ≡ 2 → (m : MayPass t r) → g r.topad r.toprogram ≡ false) → own_refusal o t r ≡ 0 → DockOk (after_own o s r).state
        → Quiet g s (after_own o s r).state
    unfolding own_refusal after_own accepted after_pass after_recall number_of
    quiet_own buf taking p q f away e = quiet_take (may_take t r p q f e)
    quiet_own buf passing p q f away e = let may = may_pass t r p q f e in quiet_pass (away refl may) may
    quiet_own buf recalling p q f away e = quiet_recall (may_recall t r e)
    quiet_own buf giving_back p q f away e = quiet_give_back (may_give_back t r e)
    quiet_own buf reading p q f away e = λ dock. quiet_read
    quiet_own buf writing p q f away e = quiet_write buf (may_use t r 2 e)

  pub outsider_is_quiet : length s.sheet ≡ 64 → (r : Request) → from_group g r ≡ false → crosses g r ≡ false → Quiet g s (serve s r).state
  unfolding serve outcome refused
  outsider_is_quiet buf r f c = go (serve_keeps_dock s r parted.dock buf) (case (eqb (request_refusal t r) 0)) (case (eqb (request_refusal t r) 12))
    where
      go : DockOk (serve s r).state → Case (eqb (request_refusal t r) 0) → Case (eqb (request_refusal t r) 12) → Quiet g s (serve s r).state
      go dock (pass e) _ =
          let p : Past t r 0 = past_request t r 0 late_0 (eqb-true (request_refusal t r) 0 e) in
          let o = is_outside g r f p.pad p.program in
          rw e
          (quiet_own r o buf (operation_of r.op) p.pad p.program p.fields
          (λ w m. on_one_side g r c (sym p.number ∙ w) m.pad m.program m.topad m.toprogram ∙ o) p.own (rw e at dock))
      go dock (fail d) (pass e) =
          let p : Past t r 12 = past_request t r 12 late_12 (eqb-true (request_refusal t r) 12 e) in
          rw (d, e) (quiet_drop r (is_outside g r f p.pad p.program) (stale_of t r p) (rw (d, e) at dock))
      go dock (fail d) (fail e) = rw (d, e) nothing
