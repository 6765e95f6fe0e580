-- Tables that are the same are the same after a removal: tickets and entries go by name, and the tests that pick the names agree on both
-- sides. So it is for a recall, for what is given back, and for the drop on 12.
use mathlib.Core.Path.{◌≡◌, refl, sym, ap, ◌∙◌, subst}
use mathlib.Core.Bool.{Bool, true, false, ◌||◌, cond}
use lib.Dec.{eqb}
use Rattle.lists.proofs.Tests.{Case, pass, fail, case, both_ways}
use Rattle.tables.specs.declared.{Name.Name, Ticket.Ticket, Entry.Entry, Tables.Tables}
use Rattle.tables.specs.Names.{eq_name, free, no_entry}
use Rattle.tables.specs.Lookup.{lookup, entry_of}
use Rattle.tables.specs.Chains.{at_or_under, chain_head, at_or_below}
use Rattle.tables.specs.Change.{drop_tickets}
use Rattle.tables.specs.Same.{said, said_entry, SameTables}
use Rattle.machine.specs.declared.Request.{Request}
use Rattle.machine.specs.State.{asked_name, asked}
use Rattle.machine.specs.Recall.{lent_away, goes_with, recall_tables}
use Rattle.machine.specs.GiveBack.{give_back_tables}
use Rattle.machine.specs.Step.{drop_head}
use Rattle.preservation.proofs.AfterChange.{removed, lookup_removed, entry_removed, last_removed}
use Rattle.tables.proofs.Keys.{drop_no_entry}
use Rattle.sameness.proofs.SaidFacts.{same_kind, same_target}
use Rattle.preservation.specs.InOrder.{InOrder}
use Rattle.preservation.proofs.LentAway.{lent_away_lem, lent_from}
use Rattle.sameness.proofs.SameIsEquivalence.{same_sym}
use Rattle.sameness.proofs.SameWalks.{under_same, head_same, below_same}
use Rattle.tables.specs.Kinds.{is_recall}

-- what is dropped on both sides or kept on both
said_dropped : (b : Bool) (k m : Ticket) → said k ≡ said m → said (cond b free k) ≡ said (cond b free m)
said_dropped true k m e = refl
said_dropped false k m e = e

said_entry_dropped : (b : Bool) (d e : Entry) → said_entry d ≡ said_entry e → said_entry (cond b no_entry d) ≡ said_entry (cond b no_entry e)
said_entry_dropped true d e s = refl
said_entry_dropped false d e s = s

-- what was lent away from the tickets that go is the same on both sides
lent_there : (t u : Tables) → SameTables t u → InOrder t → InOrder u → (gone gone' : Name → Bool) → ((n : Name) → gone n ≡ gone' n)
    → (n : Name) → lent_away t gone n ≡ true → lent_away u gone' n ≡ true
lent_there t u same ok ok' gone gone' goes n e =
    let f = lent_from t ok gone n e in
    let target = same_target t u same f.by f.recall in
    lent_away_lem u ok' gone' n
    (record {
      by = f.by;
      recall = ap is_recall (sym (same_kind t u same f.by)) ∙ f.recall;
      goes = sym (goes f.by) ∙ f.goes;
      away = λ p. f.away (ap (λ (m : Name). m.pad) target ∙ p);
      below = ap (λ (x : Name). at_or_below u x n) (sym target) ∙ sym (below_same t u same _ n) ∙ f.below;
    })

module _ (t u : Tables) (same : SameTables t u) where
  module _ (gone gone' cut cut' : Name → Bool) (goes : (n : Name) → gone n ≡ gone' n) (cuts : (n : Name) → cut n ≡ cut' n) where
    same_removed : SameTables (removed gone cut t) (removed gone' cut' u)
    same_removed = record {
      lasts = λ p q b c. last_removed gone cut t p q ∙ same.lasts p q b c ∙ sym (last_removed gone' cut' u p q);
      tickets = λ n.
          ap said (lookup_removed gone cut t n) ∙ said_dropped (gone n) (lookup t n) (lookup u n) (same.tickets n)
          ∙ ap (λ (b : Bool). said (cond b free (lookup u n))) (goes n) ∙ ap said (sym (lookup_removed gone' cut' u n));
      entries = λ n.
          ap said_entry (entry_removed gone cut t n) ∙ said_entry_dropped (cut n) (entry_of t n) (entry_of u n) (same.entries n)
          ∙ ap (λ (b : Bool). said_entry (cond b no_entry (entry_of u n))) (cuts n) ∙ ap said_entry (sym (entry_removed gone' cut' u n));
    }

  -- tickets alone
  module _ (gone gone' : Name → Bool) (goes : (n : Name) → gone n ≡ gone' n) where
    same_dropped : SameTables (drop_tickets gone t) (drop_tickets gone' u)
    same_dropped =
        subst (SameTables (drop_tickets gone t)) (drop_no_entry (drop_tickets gone' u))
        (subst (λ (v : Tables). SameTables v (removed gone' (λ n. false) u)) (drop_no_entry (drop_tickets gone t))
        (same_removed gone gone' (λ n. false) (λ n. false) goes (λ n. refl)))

  module _ (r : Request) where
    pub same_after_give_back : SameTables (give_back_tables t r) (give_back_tables u r)
    unfolding give_back_tables
    same_after_give_back =
        same_removed (at_or_under t (asked_name r)) (at_or_under u (asked_name r)) (at_or_below t (asked_name r)) (at_or_below u (asked_name r))
        (under_same t u same (asked_name r)) (below_same t u same (asked_name r))

    pub same_after_drop : SameTables (drop_head t r) (drop_head u r)
    unfolding drop_head
    same_after_drop =
        same_dropped (at_or_under t (chain_head t (asked_name r))) (at_or_under u (chain_head u (asked_name r)))
        (λ n. under_same t u same (chain_head t (asked_name r)) n ∙ ap (λ (x : Name). at_or_under u x n) (head_same t u same (asked_name r)))

    -- the target is one name on both sides
    pub same_after_recall : InOrder t → InOrder u → is_recall (asked t r).kind ≡ true → SameTables (recall_tables t r) (recall_tables u r)
    unfolding recall_tables
    same_after_recall ok ok' recall = go (case (eqb (asked t r).other.pad r.pad))
      where
        target : (asked t r).other ≡ (asked u r).other
        target = same_target t u same (asked_name r) recall

        pads : eqb (asked u r).other.pad r.pad ≡ eqb (asked t r).other.pad r.pad
        pads = ap (λ (x : Name). eqb x.pad r.pad) (sym target)

        goes : (n : Name) → goes_with t r n ≡ goes_with u r n
        goes n =
            ap (λ (b : Bool). eq_name n (asked_name r) || b)
            (under_same t u same (asked t r).other n ∙ ap (λ (x : Name). at_or_under u x n) target)

        go : Case (eqb (asked t r).other.pad r.pad) → SameTables (recall_tables t r) (recall_tables u r)
        go (pass e) =
            rw (pads, e)
            (same_removed (goes_with t r) (goes_with u r) (lent_away t (goes_with t r)) (lent_away u (goes_with u r)) goes
            (λ n. both_ways (lent_away t (goes_with t r) n) (lent_away u (goes_with u r) n) (lent_there t u same ok ok' (goes_with t r) (goes_with u r) goes n)
            (lent_there u t (same_sym t u same) ok' ok (goes_with u r) (goes_with t r) (λ m. sym (goes m)) n)))
        go (fail e) =
            rw (pads, e)
            (same_removed (λ n. eq_name n (asked_name r)) (λ n. eq_name n (asked_name r)) (at_or_below t (asked t r).other) (at_or_below u (asked u r).other)
            (λ n. refl) (λ n. below_same t u same (asked t r).other n ∙ ap (λ (x : Name). at_or_below u x n) target))
