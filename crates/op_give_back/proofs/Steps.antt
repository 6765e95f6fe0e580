-- What a give back knows of its ticket, and what it leaves.
use Prim.Native.Nat.{ℕ, ◌+◌, ◌≤◌}
use mathlib.Core.Path.{◌≡◌, sym, ap, subst, ◌∙◌}
use mathlib.Core.Bool.{true}
use mathlib.Core.List.{List}
use Rattle.tables.specs.declared.{Name.Name, Ticket.Ticket, Tables.Tables}
use Rattle.tables.specs.Lookup.{lookup}
use Rattle.tables.specs.Chains.{at_or_under, at_or_below}
use Rattle.tables.specs.Change.{drop_tickets, drop_entries}
use Rattle.tables.proofs.KindLaws.{head_grant, taken_head}
use Rattle.machine.specs.declared.{Request.Request, Refusal.Refusal}
use Rattle.machine.specs.Refusal.{number_of}
use Rattle.machine.specs.State.{accepted, clear_sheets, asked_name, asked, state_of}
use Rattle.machine.specs.Operation.{giving_back, operation_of}
use Rattle.machine.specs.GiveBack.{give_back_refusal, give_back_tables, after_give_back}
use Rattle.machine.specs.Step.{own_refusal, after_own, serve}
use Rattle.machine.proofs.RefusalLaws.{never_zero}
use Rattle.op_form.proofs.Numbers.{op_give_back}
use Rattle.op_refusals.proofs.Results.{give_back_not_lost, gives_taken}
use Rattle.op_outcome.specs.Outcomes.{outcome_of, plainly}
use Rattle.op_outcome.specs.Ready.{Ready, Asks}
use Rattle.op_outcome.proofs.Laws.{served_done, served_refused}
use Rattle.tables.specs.Kinds.{is_head}

-- ---- what is known of the ticket: a taken grant lies within the store, and heads its chain
module _ (t : Tables) (r : Request) (e : 0 ≡ give_back_refusal t r) where
  pub span_of_asked : Ready t → {k : Ticket} → asked t r ≡ k → k.first + k.count ≤ 256
  span_of_asked ready f =
      subst (λ (x : Ticket). x.first + x.count ≤ 256) f
      (ready.span (asked_name r) (head_grant (asked t r).kind (taken_head (asked t r).kind (gives_taken t r (sym e)))))

  pub head_of_asked : {own : Name} → own ≡ asked_name r → is_head (lookup t own).kind ≡ true
  head_of_asked f = subst (λ (n : Name). is_head (lookup t n).kind ≡ true) (sym f) (taken_head (asked t r).kind (gives_taken t r (sym e)))

-- ---- the tables after, from what the code has removed: the tickets go first, and the dock is not changed by that
pub gave_back : (t : Tables) (r : Request) (own : Name) → own ≡ asked_name r → (u : Tables) → u ≡ drop_tickets (at_or_under t own) t
    → drop_entries (at_or_below u own) u ≡ give_back_tables t r
unfolding give_back_tables drop_tickets
gave_back t r own f u g =
    ap (λ (x : Tables). drop_entries (at_or_below x own) x) g ∙ ap (λ (m : Name). drop_entries (at_or_below t m) (drop_tickets (at_or_under t m) t)) f

-- ---- the outcome
module _ (t : Tables) (store sheet : List ℕ) (r : Request) (asks : Asks 4 r) where
  op : operation_of r.op ≡ giving_back
  op = op_give_back r.op asks.number

  pub refused : (refusal : Refusal) → number_of refusal ≡ give_back_refusal t r → outcome_of (plainly (number_of refusal)) t store sheet ≡ serve (state_of t store sheet) r
  unfolding own_refusal
  refused refusal e =
      served_refused t store sheet r asks.early giving_back op (number_of refusal) (sym e) (never_zero refusal) (λ z. give_back_not_lost t r (sym e ∙ z))

  pub given_back : 0 ≡ give_back_refusal t r → {u : Tables} → u ≡ give_back_tables t r → {bytes : List ℕ}
      → bytes ≡ clear_sheets (asked t r).first (asked t r).count store → outcome_of (plainly 0) u bytes sheet ≡ serve (state_of t store sheet) r
  unfolding own_refusal after_own after_give_back accepted
  given_back e f g = (λ i. outcome_of (plainly 0) (f i) (g i) sheet) ∙ served_done t store sheet r asks.early giving_back op (sym e)
