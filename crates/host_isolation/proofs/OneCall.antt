-- One call on a dock that stands for a state: the requests that it makes are a sequence from that state, and the dock that it leaves stands
-- for the state that the sequence leaves. For emptying the state is the emptied one, for loading that of the text.
use Prim.Native.Nat.{ℕ, ◌≤◌}
use mathlib.Core.Path.{◌≡◌, ap, ◌∙◌}
use mathlib.Core.Bool.{true, false}
use mathlib.Core.List.{List, [], ◌∷◌}
use lib.Dec.{eqb}
use borrow.Author.Tests.{eqb-true, eqb-false}
use Rattle.lists.proofs.Tests.{Case, pass, fail, case}
use Rattle.machine.specs.State.{State, Outcome}
use Rattle.machine.specs.Step.{step}
use Rattle.machine.specs.Empty.{empty_dock}
use Rattle.machine.specs.Sequence.{Sent, enter, after}
use Rattle.machine.specs.Numbers.{request_of}
use Rattle.preservation.proofs.StepKeepsOrder.{step_keeps, result_at_most_12}
use Rattle.lending.specs.Batch.{Buffers, untouched}
use Rattle.lending.specs.Host.{step_refusal, step_outcome, left_by, step_image}
use Rattle.lending.proofs.Refusals.{step_served, step_refused, step_sheet}
use Rattle.saved.specs.Claims.{with_loaded}
use Rattle.host_isolation.specs.Calls.{Dock, Call, emptying, stepping, serving, tracing, reporting, saving, loading, checking, testing}
use Rattle.host_isolation.specs.Calls.{lent, dock_in, left, Exchange, in_step, made}
use Rattle.host_isolation.proofs.Traced.{seen_by, traced}
use Rattle.host_isolation.proofs.Stands.{Stands, decoded}

-- the state that a call's requests go out from: where a sequence begins, or what it met
abbrev pub start_of : Call → State → State
start_of emptying s = empty_dock
start_of (stepping sheet request answer) s = s
start_of (serving sheets requests answers) s = s
start_of (tracing input output) s = s
start_of (reporting scratch output) s = s
start_of (saving output) s = s
start_of (loading text) s = with_loaded text s.store []
start_of (checking pad program number sheet right) s = s
start_of testing s = s

pub record Makes (d : Dock) (c : Call) (s : State) : Type 0 where
  pub sent : List Sent
  pub same : made d c ≡ traced s sent
  pub stands : Stands (left d c) (after s sent)

-- ---- a call that makes no request
pub nothing_made : (d : Dock) (c : Call) (s : State) → made d c ≡ [] → left d c ≡ d → Stands d s → Makes d c s
unfolding traced after
nothing_made d c s none same h = record {
  sent = [];
  same = none;
  stands = record { image = (λ i. (same i).image) ∙ h.image; store = (λ i. (same i).store) ∙ h.store; ok = h.ok };
}

-- ---- one request
module _ (d : Dock) (sheet request answer : List ℕ) where
  abbrev pub b : Buffers
  b = lent d sheet request answer

  none_made : eqb (step_refusal b) 0 ≡ false → made d (stepping sheet request answer) ≡ []
  unfolding made
  none_made e = rw e

  dock_kept : eqb (step_refusal b) 0 ≡ false → left d (stepping sheet request answer) ≡ d
  unfolding left untouched
  dock_kept e = ap dock_in (step_refused b (eqb-false (step_refusal b) 0 e))

  module _ (s : State) (h : Stands d s) (e : eqb (step_refusal b) 0 ≡ true) where
    unfoldable pub the_sent : Sent
    the_sent = record { request = request_of request; sheet = sheet; whole = step_sheet b (eqb-true (step_refusal b) 0 e) }

    the_outcome : step_outcome b ≡ step (enter s the_sent) the_sent.request
    unfolding step_outcome enter the_sent
    the_outcome j = step (record { tables = decoded d s h j; store = h.store j; sheet = sheet }) (request_of request)

    is_left : step_image b ≡ left_by (step_outcome b)
    is_left = step_served b (eqb-true (step_refusal b) 0 e)

    pub step_result : (step_image b).result ≡ (step (enter s the_sent) the_sent.request).answer.result
    unfolding left_by
    step_result = (λ i. (is_left i).result) ∙ ap (λ (o : Outcome). o.answer.result) the_outcome

    pub step_low : (step_image b).result ≤ 12
    unfolding enter
    step_low =
        rw step_result
        (result_at_most_12 (enter s the_sent) the_sent.request (record { tables = h.ok.tables; store = h.ok.store }) the_sent.whole)

    pub step_same : made d (stepping sheet request answer) ≡ traced s (the_sent ∷ [])
    unfolding made traced the_sent in_step left_by
    step_same =
        let exch : in_step sheet request (step_image b) ≡ seen_by the_sent (step (enter s the_sent) the_sent.request) =
        ap (in_step sheet request) is_left ∙ ap (λ (o : Outcome). seen_by the_sent o) the_outcome in
        rw e (ap (λ (x : Exchange). x ∷ []) exch)

    pub step_left : left d (stepping sheet request answer) ≡ dock_in (left_by (step (enter s the_sent) the_sent.request))
    unfolding left
    step_left = ap dock_in (is_left ∙ ap left_by the_outcome)

    step_makes : Makes d (stepping sheet request answer) s
    unfolding after left_by enter
    step_makes = record {
      sent = the_sent ∷ [];
      same = step_same;
      stands = record {
        image = λ i. (step_left i).image;
        store = λ i. (step_left i).store;
        ok = step_keeps (enter s the_sent) the_sent.request (record { tables = h.ok.tables; store = h.ok.store }) the_sent.whole;
      };
    }

  pub stepping_makes : (s : State) → Stands d s → Makes d (stepping sheet request answer) s
  stepping_makes s h = go (case (eqb (step_refusal b) 0))
    where
      go : Case (eqb (step_refusal b) 0) → Makes d (stepping sheet request answer) s
      go (pass e) = step_makes s h e
      go (fail e) = nothing_made d (stepping sheet request answer) s (none_made e) (dock_kept e) h
