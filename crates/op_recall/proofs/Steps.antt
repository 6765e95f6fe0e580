-- What a recall leaves.
use Prim.Native.Nat.{ℕ}
use lib.Dec.{eqb}
use mathlib.Core.Path.{◌≡◌, sym, ap, ◌∙◌}
use mathlib.Core.Bool.{true}
use mathlib.Core.List.{List}
use borrow.Author.Tests.{eq-eqb, ne_eqb}
use Rattle.tables.specs.declared.{Name.Name, Ticket.Ticket, Tables.Tables}
use Rattle.tables.specs.Names.{eq_name}
use Rattle.tables.specs.Chains.{at_or_below}
use Rattle.tables.specs.Change.{drop_tickets, drop_entries}
use Rattle.machine.specs.declared.{Request.Request, Refusal.Refusal}
use Rattle.machine.specs.Refusal.{number_of}
use Rattle.machine.specs.State.{accepted, with_tables, asked_name, asked, state_of}
use Rattle.machine.specs.Operation.{recalling, operation_of}
use Rattle.machine.specs.Recall.{recall_refusal, recall_tables, after_recall}
use Rattle.machine.specs.Step.{own_refusal, after_own, serve}
use Rattle.machine.proofs.RefusalLaws.{never_zero}
use Rattle.op_form.proofs.Numbers.{op_recall}
use Rattle.op_follow.specs.Lent.{without_loan}
use Rattle.op_refusals.proofs.Results.{recall_not_lost}
use Rattle.op_outcome.specs.Outcomes.{outcome_of, plainly}
use Rattle.op_outcome.specs.Ready.{Asks}
use Rattle.op_outcome.proofs.Laws.{served_done, served_refused}

-- ---- the tables after, from what the code has removed
module _ (t : Tables) (r : Request) (k : Ticket) (e : asked t r ≡ k) where
  near_tables : eqb (asked t r).other.pad r.pad ≡ true → recall_tables t r ≡ without_loan t (asked_name r) (asked t r).other
  unfolding recall_tables
  near_tables h = rw h

  pub recalled_near : k.other.pad ≡ r.pad → (own : Name) → own ≡ asked_name r → without_loan t own k.other ≡ recall_tables t r
  recalled_near h own f =
      (λ i. without_loan t (f i) (sym e i).other)
      ∙ sym (near_tables (ap (λ (x : Ticket). eqb x.other.pad r.pad) e ∙ eq-eqb k.other.pad r.pad h))

  -- the recall goes first: the dock is not changed by that
  pub recalled_far : (k.other.pad ≡ r.pad → ⊥) → (own : Name) → own ≡ asked_name r → (u : Tables) → u ≡ drop_tickets (λ n. eq_name n own) t
      → drop_entries (at_or_below u k.other) u ≡ recall_tables t r
  unfolding recall_tables drop_tickets
  recalled_far h own f u g =
      ap (λ (x : Tables). drop_entries (at_or_below x k.other) x) (g ∙ ap (λ (m : Name). drop_tickets (λ n. eq_name n m) t) f)
      ∙ rw (e, ne_eqb k.other.pad r.pad h)

-- ---- the outcome
module _ (t : Tables) (store sheet : List ℕ) (r : Request) (asks : Asks 3 r) where
  op : operation_of r.op ≡ recalling
  op = op_recall r.op asks.number

  pub refused : (refusal : Refusal) → number_of refusal ≡ recall_refusal t r → outcome_of (plainly (number_of refusal)) t store sheet ≡ serve (state_of t store sheet) r
  unfolding own_refusal
  refused refusal e =
      served_refused t store sheet r asks.early recalling op (number_of refusal) (sym e) (never_zero refusal) (λ z. recall_not_lost t r (sym e ∙ z))

  pub recalled : 0 ≡ recall_refusal t r → {u : Tables} → u ≡ recall_tables t r → outcome_of (plainly 0) u store sheet ≡ serve (state_of t store sheet) r
  unfolding own_refusal after_own after_recall accepted with_tables
  recalled e f = ap (λ (u : Tables). outcome_of (plainly 0) u store sheet) f ∙ served_done t store sheet r asks.early recalling op (sym e)
