-- Every request respects "the same": on two tables in order that are the same, with one store and one sheet buffer, it gives one answer,
-- leaves one store and one sheet buffer, and tables that are again the same. So no request can tell in which place a ticket or an entry is
-- kept, or what a free place holds.
use Prim.Native.Nat.{ℕ, ◌+◌, ◌≤◌}
use mathlib.Core.Path.{◌≡◌, refl, sym, ap, ◌∙◌}
use mathlib.Core.Bool.{true}
use mathlib.Core.List.{List}
use lib.Dec.{eqb}
use borrow.Author.Tests.{eqb-true}
use Rattle.lists.proofs.Tests.{Case, pass, fail, case}
use Rattle.tables.specs.declared.{Name.Name, Tables.Tables}
use Rattle.tables.specs.Lookup.{Sized}
use Rattle.tables.specs.Change.{new_name}
use Rattle.tables.specs.Order.{in_order}
use Rattle.tables.specs.Same.{SameTables}
use Rattle.tables.proofs.KindLaws.{head_grant, taken_head}
use Rattle.machine.specs.declared.Request.{Request}
use Rattle.machine.specs.State.{State, answer_of, accepted, refused, with_tables, sheet_at, put_sheets, clear_sheets, asked_name, asked}
use Rattle.machine.specs.Operation.{Operation, taking, passing, recalling, giving_back, reading, writing, operation_of, used_by, fields_ok}
use Rattle.machine.specs.Take.{after_take}
use Rattle.machine.specs.Pass.{after_pass}
use Rattle.machine.specs.Recall.{after_recall}
use Rattle.machine.specs.GiveBack.{after_give_back}
use Rattle.machine.specs.Access.{after_read, after_write}
use Rattle.machine.specs.Step.{own_refusal, request_refusal, lengths_ok, after_own, drop_head, outcome, step, serve}
use Rattle.machine.proofs.RefusalLaws.{other_length, whole_lengths}
use Rattle.preservation.specs.InOrder.{InOrder}
use Rattle.preservation.proofs.Preconditions.{Past, late_0, past_request, may_take, may_pass, may_recall, may_give_back, may_use}
use Rattle.preservation.proofs.TestMeansOrder.{test_means_order}
use Rattle.preservation.proofs.StepKeepsOrder.{step_is_serve}
use Rattle.sameness.specs.SameOutcome.{SameOutcome}
use Rattle.sameness.proofs.SaidFacts.{new_name_same, same_first, same_count}
use Rattle.sameness.proofs.SamePlaces.{run_same}
use Rattle.sameness.proofs.SameRefusal.{refusal_same}
use Rattle.sameness.proofs.SameRemoval.{same_after_give_back, same_after_drop, same_after_recall}
use Rattle.sameness.proofs.SameTaking.{same_after_take}
use Rattle.sameness.proofs.SamePassing.{same_after_pass}

abbrev state_of : Tables → List ℕ → List ℕ → State
state_of t store sheet = record { tables = t; store = store; sheet = sheet }

module _ (t u : Tables) (ok : InOrder t) (ok' : InOrder u) (same : SameTables t u) (store sheet : List ℕ) (r : Request) where
  abbrev s : State
  s = state_of t store sheet

  abbrev s' : State
  s' = state_of u store sheet

  -- ---- a refusal
  untouched : (c : ℕ) → SameOutcome (refused s c) (refused s' c)
  unfolding refused
  untouched c = record { answer = refl; store = refl; sheet = refl; tables = same }

  -- ---- the operations
  number_same : (a b : ℕ) → a ≤ 3 → b ≤ 7 → (new_name t a b).number ≡ (new_name u a b).number
  number_same a b c d = ap (λ (n : Name). n.number) (new_name_same t u same a b c d)

  module _ (p : r.pad ≤ 3) (q : r.program ≤ 7) where
    take_same : fields_ok (used_by taking) r ≡ true → own_refusal taking t r ≡ 0 → own_refusal taking u r ≡ 0 → SameOutcome (after_take s r) (after_take s' r)
    unfolding own_refusal after_take accepted
    take_same f e e' = record {
      answer = ap (λ (n : ℕ). answer_of 0 n 0) (number_same r.pad r.program p q);
      store = ap (λ (n : ℕ). clear_sheets n r.count store) (run_same t u ok ok' same r.count);
      sheet = refl;
      tables = same_after_take t u ok ok' same r (may_take t r p q f e) (may_take u r p q f e');
    }

    pass_same : fields_ok (used_by passing) r ≡ true → own_refusal passing t r ≡ 0 → own_refusal passing u r ≡ 0 → SameOutcome (after_pass s r) (after_pass s' r)
    unfolding own_refusal after_pass accepted with_tables
    pass_same f e e' =
        let may = may_pass t r p q f e in
        let may' = may_pass u r p q f e' in
        record {
          answer = λ i. answer_of 0 (number_same r.pad r.program p q i) (number_same r.topad r.toprogram may.topad may.toprogram i);
          store = refl;
          sheet = refl;
          tables = same_after_pass t u ok ok' same r may may';
        }

  recall_same : own_refusal recalling t r ≡ 0 → SameOutcome (after_recall s r) (after_recall s' r)
  unfolding own_refusal after_recall accepted with_tables
  recall_same e = record { answer = refl; store = refl; sheet = refl; tables = same_after_recall t u same r ok ok' (may_recall t r e) }

  give_back_same : own_refusal giving_back t r ≡ 0 → SameOutcome (after_give_back s r) (after_give_back s' r)
  unfolding own_refusal after_give_back accepted
  give_back_same e =
      let g = head_grant (asked t r).kind (taken_head (asked t r).kind (may_give_back t r e)) in
      record {
        answer = refl;
        store = λ i. clear_sheets (same_first t u same (asked_name r) g i) (same_count t u same (asked_name r) g i) store;
        sheet = refl;
        tables = same_after_give_back t u same r;
      }

  -- the sheet is one sheet on both sides
  read_same : own_refusal reading t r ≡ 0 → SameOutcome (after_read s r) (after_read s' r)
  unfolding own_refusal after_read accepted
  read_same e = record {
    answer = refl;
    store = refl;
    sheet = ap (λ (f : ℕ). sheet_at (f + r.first) store) (same_first t u same (asked_name r) (may_use t r 1 e).grant);
    tables = same;
  }

  write_same : own_refusal writing t r ≡ 0 → SameOutcome (after_write s r) (after_write s' r)
  unfolding own_refusal after_write accepted
  write_same e = record {
    answer = refl;
    store = ap (λ (f : ℕ). put_sheets (f + r.first) sheet store) (same_first t u same (asked_name r) (may_use t r 2 e).grant);
    sheet = refl;
    tables = same;
  }

  own_same : (o : Operation) → r.pad ≤ 3 → r.program ≤ 7 → fields_ok (used_by o) r ≡ true → own_refusal o t r ≡ 0 → own_refusal o u r ≡ 0
      → SameOutcome (after_own o s r) (after_own o s' r)
  unfolding after_own
  own_same taking p q f e e' = take_same p q f e e'
  own_same passing p q f e e' = pass_same p q f e e'
  own_same recalling p q f e e' = recall_same e
  own_same giving_back p q f e e' = give_back_same e
  own_same reading p q f e e' = read_same e
  own_same writing p q f e e' = write_same e

  -- ---- on 12
  dropped_same : SameOutcome (refused (with_tables s (drop_head t r)) 12) (refused (with_tables s' (drop_head u r)) 12)
  unfolding refused with_tables
  dropped_same = record { answer = refl; store = refl; sheet = refl; tables = same_after_drop t u same r }

  -- ---- past 13 and 14
  serve_same : SameOutcome (serve s r) (serve s' r)
  unfolding serve outcome
  serve_same = go (case (eqb (request_refusal t r) 0)) (case (eqb (request_refusal t r) 12))
    where
      number : request_refusal u r ≡ request_refusal t r
      number = sym (refusal_same t u same r ok ok')

      go : Case (eqb (request_refusal t r) 0) → Case (eqb (request_refusal t r) 12) → SameOutcome (serve s r) (serve s' r)
      go (pass e) _ =
          let z : request_refusal t r ≡ 0 = eqb-true (request_refusal t r) 0 e in
          let a : Past t r 0 = past_request t r 0 late_0 z in
          let b : Past u r 0 = past_request u r 0 late_0 (number ∙ z) in
          rw (number, e) (own_same (operation_of r.op) a.pad a.program a.fields a.own b.own)
      go (fail d) (pass e) = rw (number, d, e) dropped_same
      go (fail d) (fail e) = rw (number, d, e) (untouched (request_refusal t r))

  -- ---- the lengths are the same on both sides
  same_lengths : lengths_ok s' ≡ lengths_ok s
  unfolding lengths_ok
  same_lengths = refl

  step_same : SameOutcome (step s r) (step s' r)
  step_same = go (case (lengths_ok s))
    where
      go : Case (lengths_ok s) → SameOutcome (step s r) (step s' r)
      go (pass e) = let l = whole_lengths s e in rw (step_is_serve s r ok l.0 l.1, step_is_serve s' r ok' l.0 l.1) serve_same
      go (fail e) = rw (other_length s r e, other_length s' r (same_lengths ∙ e)) (untouched 13)

-- with the Bool test of the order, for a store and a sheet buffer of any length: with another length than theirs both sides get 13
pub same_step : (t u : Tables) (store sheet : List ℕ) (r : Request) → Sized t → Sized u
    → in_order t ≡ true
    → in_order u ≡ true
    → SameTables t u
    → SameOutcome (step (record { tables = t; store = store; sheet = sheet }) r) (step (record { tables = u; store = store; sheet = sheet }) r)
same_step t u store sheet r z z' o o' same = step_same t u (test_means_order t z o) (test_means_order u z' o') same store sheet r
