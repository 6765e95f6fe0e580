-- The group's own request, served from two alike states, by the refusal's number: accepted, dropped on 12, refused.
use Prim.Native.Nat.{ℕ, ◌≤◌}
use native.Mathlib.Omega.{arith}
use mathlib.Core.Path.{◌≡◌, refl, sym, ap, ◌∙◌}
use mathlib.Core.Logic.{◌↔◌}
use mathlib.Core.Bool.{Bool, true, false}
use lib.Dec.{eqb}
use lib.ListN.{length}
use borrow.Author.Tests.{eqb-true, eqb-false}
use Rattle.lists.proofs.Tests.{Case, pass, fail, case}
use Rattle.machine.specs.declared.Request.{Request}
use Rattle.machine.specs.State.{State, answer_of, refused}
use Rattle.machine.specs.Operation.{operation_of}
use Rattle.machine.specs.Step.{request_refusal, outcome, serve}
use Rattle.machine.specs.Sequence.{Group}
use Rattle.machine.proofs.RefusalLaws.{own_decides, refusals_agree}
use Rattle.preservation.specs.InOrder.{DockOk}
use Rattle.preservation.proofs.Results.{serve_result}
use Rattle.preservation.proofs.Preconditions.{op_number, Past, past_request, late_0, late_12, stale_of}
use Rattle.preservation.proofs.StepKeepsOrder.{serve_keeps_dock}
use Rattle.isolation.specs.Alike.{Alike}
use Rattle.isolation.proofs.GroupStep.{Agreed, own_same, own_agreed, drop_alike}

module _ (g : Group) (s u : State) (al : Alike g s u) (r : Request) (mine : g r.pad r.program ≡ true) where
  -- what is given beside alike states: a pass stays inside, a take gets 11 on both sides or on neither
  module _ (inside : r.op ≡ 2 → r.topad ≤ 3 → r.toprogram ≤ 7 → g r.topad r.toprogram ≡ true)
      (eleven : r.op ≡ 1 → ((serve s r).answer.result ≡ 11) ↔ ((serve u r).answer.result ≡ 11)) (p3 : r.pad ≤ 3) (p7 : r.program ≤ 7) where
    refusal_same : request_refusal s.tables r ≡ request_refusal u.tables r
    refusal_same =
        refusals_agree s.tables u.tables r
        (λ p o f. own_same g s u al r mine inside eleven p3 p7 (operation_of r.op) (op_number r.op o) f (λ v. serve_result v r ∙ own_decides v.tables r p o f))

    same_0 : {b : Bool} → eqb (request_refusal s.tables r) 0 ≡ b → eqb (request_refusal u.tables r) 0 ≡ b
    same_0 e = ap (λ (n : ℕ). eqb n 0) (sym refusal_same) ∙ e

    same_12 : {b : Bool} → eqb (request_refusal s.tables r) 12 ≡ b → eqb (request_refusal u.tables r) 12 ≡ b
    same_12 e = ap (λ (n : ℕ). eqb n 12) (sym refusal_same) ∙ e

    -- by the refusal's number: accepted, dropped, refused
    accepted_agreed : eqb (request_refusal s.tables r) 0 ≡ true → length s.sheet ≡ 64 → (r.op ≡ 6 → s.sheet ≡ u.sheet)
        → DockOk (serve s r).state → DockOk (serve u r).state → Agreed g r (serve s r) (serve u r)
    unfolding serve outcome
    accepted_agreed e buf same dock dock₂ =
        let p : Past s.tables r 0 = past_request s.tables r 0 late_0 (eqb-true (request_refusal s.tables r) 0 e) in
        let q : Past u.tables r 0 = past_request u.tables r 0 late_0 (eqb-true (request_refusal u.tables r) 0 (same_0 e)) in
        rw (e, same_0 e) (own_agreed g s u al r mine inside eleven p3 p7 (operation_of r.op) p.number p.fields buf same p.own q.own (rw e at dock) (rw (same_0 e) at dock₂))

    dropped_agreed : eqb (request_refusal s.tables r) 0 ≡ false → eqb (request_refusal s.tables r) 12 ≡ true
        → DockOk (serve s r).state → DockOk (serve u r).state → Agreed g r (serve s r) (serve u r)
    unfolding serve outcome refused
    dropped_agreed f e dock dock₂ =
        let p = stale_of s.tables r (past_request s.tables r 12 late_12 (eqb-true (request_refusal s.tables r) 12 e)) in
        let q = stale_of u.tables r (past_request u.tables r 12 late_12 (eqb-true (request_refusal u.tables r) 12 (same_12 e))) in
        rw (f, same_0 f, e, same_12 e)
        (record {
          answer = refl;
          sheet = λ z w. absurd (omega (arith, w));
          alike = drop_alike g s u al r mine p q (rw (f, e) at dock) (rw (same_0 f, same_12 e) at dock₂);
        })

    refused_agreed : eqb (request_refusal s.tables r) 0 ≡ false → eqb (request_refusal s.tables r) 12 ≡ false → Agreed g r (serve s r) (serve u r)
    unfolding serve outcome refused
    refused_agreed f e =
        rw (f, same_0 f, e, same_12 e)
        (record {
          answer = ap (λ (n : ℕ). answer_of n 0 0) refusal_same;
          sheet = λ z w. absurd (eqb-false (request_refusal s.tables r) 0 f w);
          alike = al;
        })

    pub group_step : length s.sheet ≡ 64 → length u.sheet ≡ 64 → (r.op ≡ 6 → s.sheet ≡ u.sheet) → Agreed g r (serve s r) (serve u r)
    group_step buf buf₂ same = go (case (eqb (request_refusal s.tables r) 0)) (case (eqb (request_refusal s.tables r) 12))
      where
        dock : DockOk (serve s r).state
        dock = serve_keeps_dock s r al.here.dock buf

        dock₂ : DockOk (serve u r).state
        dock₂ = serve_keeps_dock u r al.there.dock buf₂

        go : Case (eqb (request_refusal s.tables r) 0) → Case (eqb (request_refusal s.tables r) 12) → Agreed g r (serve s r) (serve u r)
        go (pass e) _ = accepted_agreed e buf same dock dock₂
        go (fail f) (pass e) = dropped_agreed f e dock dock₂
        go (fail f) (fail e) = refused_agreed f e
