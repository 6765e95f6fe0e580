-- Tables that are the same are the same after an accepted pass: the two new names are the same on both sides, and so are the recall, the
-- grant and, to another pad, the entry; nothing else changes on either.
use Prim.Native.Nat.{ℕ, ◌+◌, ◌<◌}
use mathlib.Core.Path.{◌≡◌, sym, ap, ◌∙◌, subst}
use lib.Dec.{eqb}
use borrow.Author.Tests.{eqb-true, eqb-false}
use Rattle.lists.proofs.Tests.{Case, pass, fail, case}
use Rattle.rights.specs.Rules.{rights_of}
use Rattle.tables.specs.declared.{Name.Name, Ticket.Ticket, Program.Program, Tables.Tables}
use Rattle.tables.specs.declared.Kind.TheVariants.{Received, Child}
use Rattle.tables.specs.Names.{eq_name, same_program, grant_ticket, head_ticket, recall_ticket, entry_for}
use Rattle.tables.specs.Lookup.{last_of, lookup, entry_of}
use Rattle.tables.specs.Same.{said, said_entry, SameTables}
use Rattle.tables.proofs.NameLaws.{eq_name_true, eq_name_ne, program_same}
use Rattle.machine.specs.declared.Request.{Request}
use Rattle.machine.specs.State.{asked_name, asked}
use Rattle.machine.specs.Pass.{pass_tables}
use Rattle.preservation.specs.InOrder.{InOrder}
use Rattle.preservation.proofs.Passing.{MayPass, recall_name, grant_name, new_recall, new_child, new_received, new_entry, PassEffect, pass_near, pass_near_entries, pass_far, pass_far_entry}
use Rattle.sameness.proofs.SaidFacts.{new_name_same, same_first, same_dock}

module _ (t u : Tables) (ok : InOrder t) (ok' : InOrder u) (same : SameTables t u) (r : Request) (may : MayPass t r) (may' : MayPass u r) where
  -- ---- what is new is the same
  recall_name_lem : recall_name t r ≡ recall_name u r
  recall_name_lem = new_name_same t u same r.pad r.program may.pad may.program

  grant_name_lem : grant_name t r ≡ grant_name u r
  grant_name_lem = new_name_same t u same r.topad r.toprogram may.topad may.toprogram

  first : (asked t r).first ≡ (asked u r).first
  first = same_first t u same (asked_name r) may.grant

  dock : (asked t r).dock ≡ (asked u r).dock
  dock = same_dock t u same (asked_name r) may.grant

  recall_same : new_recall t r ≡ new_recall u r
  recall_same = λ i. recall_ticket (recall_name_lem i).number r.ticket (grant_name_lem i)

  child_same : new_child t r ≡ new_child u r
  child_same =
      λ i. grant_ticket Child (grant_name_lem i).number (asked_name r) (first i + r.first) r.count (rights_of r.rights) (dock i)

  received_same : new_received t r ≡ new_received u r
  received_same = λ i. head_ticket Received (grant_name_lem i) (first i + r.first) r.count (rights_of r.rights)

  entry_same : new_entry t r ≡ new_entry u r
  entry_same = λ i. entry_for (grant_name_lem i) (dock i) (first i + r.first) r.count (rights_of r.rights)

  -- ---- the tables after, with one grant k on both sides
  module _ (k : Ticket) (a : PassEffect t (pass_tables t r) r k) (b : PassEffect u (pass_tables u r) r k) where
    last_at : (p q : ℕ) → p < 4 → q < 8 → Case (same_program p q r.pad r.program) → Case (same_program p q r.topad r.toprogram)
        → last_of (pass_tables t r) p q ≡ last_of (pass_tables u r) p q
    last_at p q c d (pass e) _ =
        let s = program_same p q r.pad r.program e in
        rw (s.pad, s.program) (a.asker.last ∙ ap (λ (x : Ticket). x.number) recall_same ∙ sym b.asker.last)
    last_at p q c d (fail f) (pass e) =
        let s = program_same p q r.topad r.toprogram e in
        rw (s.pad, s.program) (a.recipient.last ∙ sym b.recipient.last)
    last_at p q c d (fail f) (fail e) =
        ap (λ (g : Program). g.last) (a.programs p q f e) ∙ same.lasts p q c d ∙ ap (λ (g : Program). g.last) (sym (b.programs p q f e))

    recall_there : lookup (pass_tables u r) (recall_name t r) ≡ new_recall t r
    recall_there = ap (lookup (pass_tables u r)) recall_name_lem ∙ b.recall ∙ sym recall_same

    grant_there : lookup (pass_tables u r) (grant_name t r) ≡ k
    grant_there = ap (lookup (pass_tables u r)) grant_name_lem ∙ b.grant

    ticket_at_lem : (n : Name) → Case (eq_name n (recall_name t r)) → Case (eq_name n (grant_name t r))
        → said (lookup (pass_tables t r) n) ≡ said (lookup (pass_tables u r) n)
    ticket_at_lem n (pass e) _ = ap said (rw (eq_name_true n (recall_name t r) e) (a.recall ∙ sym recall_there))
    ticket_at_lem n (fail f) (pass e) = ap said (rw (eq_name_true n (grant_name t r) e) (a.grant ∙ sym grant_there))
    ticket_at_lem n (fail f) (fail e) =
        let nx = eq_name_ne n (recall_name t r) f in
        let ny = eq_name_ne n (grant_name t r) e in
        ap said (a.tickets n nx ny) ∙ same.tickets n
        ∙ ap said (sym (b.tickets n (λ z. nx (z ∙ sym recall_name_lem)) (λ z. ny (z ∙ sym grant_name_lem))))

    same_effect : ((n : Name) → said_entry (entry_of (pass_tables t r) n) ≡ said_entry (entry_of (pass_tables u r) n))
        → SameTables (pass_tables t r) (pass_tables u r)
    same_effect entries = record {
      lasts = λ p q c d. last_at p q c d (case (same_program p q r.pad r.program)) (case (same_program p q r.topad r.toprogram));
      tickets = λ n. ticket_at_lem n (case (eq_name n (recall_name t r))) (case (eq_name n (grant_name t r)));
      entries = entries;
    }

  -- ---- on the same pad, where the dock isn't told, and to another
  near : r.pad ≡ r.topad → SameTables (pass_tables t r) (pass_tables u r)
  near e =
      same_effect (new_child t r) (pass_near t ok r may e) (subst (PassEffect u (pass_tables u r) r) (sym child_same) (pass_near u ok' r may' e))
      (λ n.
      ap said_entry (pass_near_entries t ok r may e n) ∙ same.entries n ∙ ap said_entry (sym (pass_near_entries u ok' r may' e n)))

  module _ (away : r.pad ≡ r.topad → ⊥) where
    there : PassEffect u (pass_tables u r) r (new_received t r)
    there = subst (PassEffect u (pass_tables u r) r) (sym received_same) (pass_far u ok' r may' away)

    entry_at : (n : Name) → Case (eq_name n (grant_name t r)) → said_entry (entry_of (pass_tables t r) n) ≡ said_entry (entry_of (pass_tables u r) n)
    entry_at n (pass e) =
        let q : n ≡ grant_name t r = eq_name_true n (grant_name t r) e in
        ap said_entry
        (ap (entry_of (pass_tables t r)) q ∙ pass_far_entry t ok r may away ∙ entry_same ∙ sym (pass_far_entry u ok' r may' away)
        ∙ ap (entry_of (pass_tables u r)) (sym (q ∙ grant_name_lem)))
    entry_at n (fail e) =
        let ne = eq_name_ne n (grant_name t r) e in
        ap said_entry ((pass_far t ok r may away).entries n ne) ∙ same.entries n ∙ ap said_entry (sym (there.entries n (λ z. ne (z ∙ sym grant_name_lem))))

    far : SameTables (pass_tables t r) (pass_tables u r)
    far = same_effect (new_received t r) (pass_far t ok r may away) there (λ n. entry_at n (case (eq_name n (grant_name t r))))

  pub same_after_pass : SameTables (pass_tables t r) (pass_tables u r)
  same_after_pass = go (case (eqb r.pad r.topad))
    where
      go : Case (eqb r.pad r.topad) → SameTables (pass_tables t r) (pass_tables u r)
      go (pass e) = near (eqb-true r.pad r.topad e)
      go (fail e) = far (eqb-false r.pad r.topad e)
