-- Every request leaves tables whose arrays have their lengths, whether it meets tables in order or not.
use Prim.Native.Nat.{ℕ, ◌≤◌}
use native.Mathlib.Omega.{arith}
use mathlib.Core.Path.{◌≡◌, ◌∙◌}
use mathlib.Core.Bool.{true, not}
use lib.Dec.{eqb}
use lib.ListN.{length-set}
use borrow.Author.Tests.{eqb-true}
use Rattle.lists.specs.Lists.{first_index}
use Rattle.lists.proofs.Tests.{Case, pass, fail, case}
use Rattle.tables.specs.declared.{Ticket.Ticket, Entry.Entry, Tables.Tables}
use Rattle.tables.specs.Names.{eq_name}
use Rattle.tables.specs.Lookup.{Sized, program_at, tickets_of}
use Rattle.tables.specs.Chains.{chain_head, at_or_under, at_or_below}
use Rattle.tables.specs.Order.{in_order}
use Rattle.tables.specs.Change.{is_free, with_ticket, give, is_spare, put_entry}
use Rattle.tables.proofs.Programs.{dropped_sized, sized_with}
use Rattle.machine.specs.declared.Request.{Request}
use Rattle.machine.specs.State.{State, accepted, refused, with_tables, asked_name, asked}
use Rattle.machine.specs.Refusal.{◌when◌else◌}
use Rattle.machine.specs.Operation.{Operation, taking, passing, recalling, giving_back, reading, writing, operation_of, used_by, fields_ok}
use Rattle.machine.specs.Take.{take_tables, after_take}
use Rattle.machine.specs.Pass.{pass_tables, after_pass}
use Rattle.machine.specs.Recall.{lent_away, goes_with, recall_tables, after_recall}
use Rattle.machine.specs.GiveBack.{give_back_tables, after_give_back}
use Rattle.machine.specs.Access.{after_read, after_write}
use Rattle.machine.specs.Step.{request_refusal, lengths_ok, refusal, after_own, drop_head, outcome, step}
use Rattle.machine.proofs.RefusalLaws.{when_past}
use Rattle.preservation.proofs.AfterChange.{sized_removed}
use Rattle.preservation.proofs.Preconditions.{Past, late_0, past_request, pass_fields}

-- ---- the changes
sized_give : (t : Tables) → Sized t → (p q : ℕ) → p ≤ 3 → q ≤ 7 → (k : Ticket) → Sized (give t p q k)
unfolding give with_ticket
sized_give t z p q a b k =
    sized_with t z p q a b (with_ticket (program_at t p q) k)
    (length-set (tickets_of t p q) (first_index is_free (tickets_of t p q)) k ∙ z.tickets p q (omega arith) (omega arith))

sized_put : (t : Tables) → Sized t → (e : Entry) → Sized (put_entry t e)
unfolding put_entry
sized_put t z e = record {
  pads = z.pads;
  programs = z.programs;
  tickets = z.tickets;
  entries = length-set t.entries (first_index is_spare t.entries) e ∙ z.entries;
}

-- ---- the operations
module _ (t : Tables) (z : Sized t) (r : Request) (p : r.pad ≤ 3) (q : r.program ≤ 7) where
  sized_take : Sized (take_tables t r)
  unfolding take_tables
  sized_take = sized_put _ (sized_give t z r.pad r.program p q _) _

  sized_pass : r.topad ≤ 3 → r.toprogram ≤ 7 → Case (eqb r.pad r.topad) → Sized (pass_tables t r)
  unfolding pass_tables
  sized_pass a b (pass e) = rw e (sized_give _ (sized_give t z r.pad r.program p q _) r.topad r.toprogram a b _)
  sized_pass a b (fail e) = rw e (sized_put _ (sized_give _ (sized_give t z r.pad r.program p q _) r.topad r.toprogram a b _) _)

  sized_recall : Case (eqb (asked t r).other.pad r.pad) → Sized (recall_tables t r)
  unfolding recall_tables
  sized_recall (pass e) = rw e (sized_removed (goes_with t r) (lent_away t (goes_with t r)) t z)
  sized_recall (fail e) =
      rw e (sized_removed (λ n. eq_name n (asked_name r)) (at_or_below t (asked t r).other) t z)

  sized_give_back : Sized (give_back_tables t r)
  unfolding give_back_tables
  sized_give_back = sized_removed (at_or_under t (asked_name r)) (at_or_below t (asked_name r)) t z

own_keeps_sized : (s : State) (r : Request) → Sized s.tables → (o : Operation) → r.pad ≤ 3 → r.program ≤ 7 → fields_ok (used_by o) r ≡ true
    → Sized (after_own o s r).state.tables
unfolding after_own accepted with_tables after_take after_pass after_recall after_give_back after_read after_write
own_keeps_sized s r z taking p q f = sized_take s.tables z r p q
own_keeps_sized s r z passing p q f =
    let to = pass_fields r f in
    sized_pass s.tables z r p q to.0 to.1 (case (eqb r.pad r.topad))
own_keeps_sized s r z recalling p q f = sized_recall s.tables z r p q (case (eqb (asked s.tables r).other.pad r.pad))
own_keeps_sized s r z giving_back p q f = sized_give_back s.tables z r p q
own_keeps_sized s r z reading p q f = z
own_keeps_sized s r z writing p q f = z

-- ---- the step
module _ (s : State) (r : Request) where
  accepted_past : refusal s r ≡ 0 → Past s.tables r 0
  unfolding refusal
  accepted_past e =
      let later = request_refusal s.tables r in
      let a = when_past 13 (not (lengths_ok s)) (14 when not (in_order s.tables) else later) 0 (λ z. omega arith) e in
      let b = when_past 14 (not (in_order s.tables)) later 0 (λ z. omega arith) a.1 in
      past_request s.tables r 0 late_0 b.1

  sized_outcome : Sized s.tables → Case (eqb (refusal s r) 0) → Case (eqb (refusal s r) 12) → Sized (step s r).state.tables
  unfolding step outcome refused with_tables drop_head
  sized_outcome z (pass e) _ =
      let p = accepted_past (eqb-true (refusal s r) 0 e) in
      rw e (own_keeps_sized s r z (operation_of r.op) p.pad p.program p.fields)
  sized_outcome z (fail f) (pass e) = rw (f, e) (dropped_sized (at_or_under s.tables (chain_head s.tables (asked_name r))) s.tables z)
  sized_outcome z (fail f) (fail e) = rw (f, e) z

  pub step_keeps_sized : Sized s.tables → Sized (step s r).state.tables
  step_keeps_sized z = sized_outcome z (case (eqb (refusal s r) 0)) (case (eqb (refusal s r) 12))
