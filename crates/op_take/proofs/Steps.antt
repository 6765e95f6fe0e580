-- A take by the tests that the code makes, one after the other, and what it leaves.
use Prim.Native.Nat.{ℕ, ◌+◌, ◌≤◌, ◌<◌}
use native.Mathlib.Omega.{arith}
use mathlib.Core.Path.{◌≡◌, sym, ap, ◌∙◌}
use mathlib.Core.Bool.{true, false, not}
use mathlib.Core.List.{List}
use borrow.Author.Tests.{not-false}
use Rattle.rights.specs.Rules.{rights_of}
use Rattle.tables.specs.declared.{Name.Name, Ticket.Ticket, Entry.Entry, Tables.Tables}
use Rattle.tables.specs.declared.Kind.TheVariants.{Taken}
use Rattle.tables.specs.Names.{name_of, no_name, head_ticket, entry_for}
use Rattle.tables.specs.Sheets.{has_run}
use Rattle.tables.specs.Change.{has_place, new_name, give, put_entry}
use Rattle.best_fit.specs.BestFit.{best_fit}
use Rattle.best_fit.proofs.Laws.{run_there, run_nowhere, best_fits}
use Rattle.machine.specs.declared.{Request.Request, Refusal.Refusal}
use Rattle.machine.specs.State.{answer_of, accepted, clear_sheets, state_of}
use Rattle.machine.specs.Refusal.{number_of, is_spent}
use Rattle.machine.specs.Operation.{taking, operation_of}
use Rattle.machine.specs.Take.{take_refusal, take_tables, after_take}
use Rattle.machine.specs.Step.{own_refusal, after_own, serve}
use Rattle.machine.proofs.RefusalLaws.{never_zero, when_past, when_at_most}
use Rattle.op_form.proofs.Numbers.{op_take}
use Rattle.op_form.proofs.Laws.{take_fields}
use Rattle.op_outcome.specs.Outcomes.{outcome_of, plainly}
use Rattle.op_outcome.specs.Ready.{Asks}
use Rattle.op_outcome.proofs.Laws.{served_done, served_refused}

some_sheets : (r : Request) → Asks 1 r → 1 ≤ r.count
some_sheets r asks = (take_fields r asks.early asks.number).count_low

-- ---- the run
module _ (t : Tables) (r : Request) (asks : Asks 1 r) {first : ℕ} (e : first ≡ best_fit t.entries r.count) where
  pub no_run : 256 ≤ first → has_run t.entries r.count ≡ false
  no_run h = run_nowhere t.entries r.count (some_sheets r asks) (omega (arith, h, e))

  pub a_run : first < 256 → has_run t.entries r.count ≡ true
  a_run h = run_there t.entries r.count (some_sheets r asks) (omega (arith, h, e))

-- ---- what it leaves
module _ (t : Tables) (r : Request) where
  -- an accepted take found a run
  pub run_in_store : Asks 1 r → 0 ≡ take_refusal t r → best_fit t.entries r.count + r.count ≤ 256
  unfolding take_refusal
  run_in_store asks e =
      let p₉ = when_past 9 (not (has_place t r.pad r.program)) _ 0 (λ z. omega (arith, z)) (sym e) in
      let p₁₀ = when_past 10 (is_spent t r.pad r.program) _ 0 (λ z. omega (arith, z)) p₉.1 in
      let p₁₁ = when_past 11 (not (has_run t.entries r.count)) 0 0 (λ z. omega (arith, z)) p₁₀.1 in
      best_fits t.entries r.count (some_sheets r asks) (not-false _ p₁₁.0)

  -- 12 is none of a take's refusals
  not_lost : take_refusal t r ≡ 12 → ⊥
  unfolding take_refusal
  not_lost e =
      let high : take_refusal t r ≤ 11
      = when_at_most 11 9 _ _ (omega arith) (when_at_most 11 10 _ _ (omega arith) (when_at_most 11 11 _ 0 (omega arith) (omega arith))) in
      omega (arith, e, high)

  module _ (store : List ℕ) (asks : Asks 1 r) (sheet : List ℕ) where
    op : operation_of r.op ≡ taking
    op = op_take r.op asks.number

    pub served_not : (refusal : Refusal) → number_of refusal ≡ take_refusal t r → outcome_of (plainly (number_of refusal)) t store sheet ≡ serve (state_of t store sheet) r
    unfolding own_refusal
    served_not refusal e =
        served_refused t store sheet r asks.early taking op (number_of refusal) (sym e) (never_zero refusal) (λ z. not_lost (sym e ∙ z))

    -- the ticket and the entry that the code has made
    pub taken : 0 ≡ take_refusal t r → {number : ℕ} → number ≡ (new_name t r.pad r.program).number
        → {first : ℕ} → first ≡ best_fit t.entries r.count
        → {k : Ticket} → k ≡ head_ticket Taken (name_of r.pad r.program number) first r.count (rights_of r.rights)
        → {none : Name} → none ≡ no_name
        → {e : Entry} → e ≡ entry_for (name_of r.pad r.program number) none first r.count (rights_of r.rights)
        → {given : Tables} → given ≡ give t r.pad r.program k → {u : Tables} → u ≡ put_entry given e
        → {bytes : List ℕ} → bytes ≡ clear_sheets first r.count store
        → outcome_of (answer_of 0 number 0) u bytes sheet ≡ serve (state_of t store sheet) r
    unfolding own_refusal after_own after_take accepted take_tables
    taken z {number} m {first} f made none entered given put cleared =
        let rights = rights_of r.rights in
        let k' = made ∙ (λ i. head_ticket Taken (name_of r.pad r.program (m i)) (f i) r.count rights) in
        let e' = entered ∙ (λ i. entry_for (name_of r.pad r.program (m i)) (none i) (f i) r.count rights) in
        let u' = put ∙ (λ i. put_entry ((given ∙ ap (give t r.pad r.program) k') i) (e' i)) in
        let bytes' = cleared ∙ (λ i. clear_sheets (f i) r.count store) in
        (λ i. outcome_of (answer_of 0 (m i) 0) (u' i) (bytes' i) sheet) ∙ served_done t store sheet r asks.early taking op (sym z)
