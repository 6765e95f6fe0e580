-- The step: on a dock that is in order, with whole buffers, 13 and 14 never come, and the dock is left in order. Said of one request and of
-- any sequence of requests; of the proposition, and of the Bool tests alone.
use Prim.Native.Nat.{ℕ, ◌+◌, ◌*◌, ◌≤◌}
use native.Mathlib.Omega.{arith}
use mathlib.Core.Path.{◌≡◌}
use mathlib.Core.Bool.{true}
use mathlib.Core.List.{List, [], ◌∷◌}
use lib.Dec.{eqb}
use lib.ListN.{length, replicate, length-replicate}
use borrow.Author.Tests.{eqb-true, eq-eqb}
use Rattle.lists.proofs.Tests.{Case, pass, fail, case}
use Rattle.tables.specs.Lookup.{Sized}
use Rattle.tables.specs.Order.{in_order}
use Rattle.tables.proofs.KindLaws.{taken_head, head_grant}
use Rattle.best_fit.specs.BestFit.{best_fit}
use Rattle.best_fit.proofs.Laws.{best_fits}
use Rattle.machine.specs.declared.Request.{Request}
use Rattle.machine.specs.State.{State, accepted, refused, with_tables, clear_sheets, asked_name, asked}
use Rattle.machine.specs.Refusal.{◌when◌else◌}
use Rattle.machine.specs.Operation.{Operation, taking, passing, recalling, giving_back, reading, writing, operation_of, used_by, fields_ok}
use Rattle.machine.specs.Take.{after_take}
use Rattle.machine.specs.Pass.{after_pass}
use Rattle.machine.specs.Recall.{after_recall}
use Rattle.machine.specs.GiveBack.{after_give_back}
use Rattle.machine.specs.Access.{sheet_of, after_read, after_write}
use Rattle.machine.specs.Step.{own_refusal, request_refusal, lengths_ok, refusal, after_own, outcome, step, serve}
use Rattle.machine.specs.Empty.{empty_dock}
use Rattle.machine.specs.Sequence.{Sent, enter, after}
use Rattle.machine.proofs.RefusalLaws.{other_length, whole_lengths}
use Rattle.preservation.specs.InOrder.{InOrder, DockOk}
use Rattle.preservation.proofs.StoreSheets.{length_put}
use Rattle.preservation.proofs.Preconditions.{Past, late_0, past_request, MayUse, may_take, may_give_back, may_use}
use Rattle.preservation.proofs.Results.{serve_result, request_refusal_low}
use Rattle.preservation.proofs.EveryOperationKeeps.{serve_keeps}
use Rattle.preservation.proofs.OrderPassesTest.{order_passes_test}
use Rattle.preservation.proofs.TestMeansOrder.{test_means_order}
use Rattle.preservation.proofs.EmptyDockInOrder.{empty_invariant}

-- ---- the store keeps its length
cleared_length : (first count : ℕ) (store : List ℕ) → length store ≡ 16384 → first + count ≤ 256 → length (clear_sheets first count store) ≡ 16384
unfolding clear_sheets
cleared_length first count store size fits = length_put first count (replicate (64 * count) 0) store size (length-replicate _ 0) fits

own_keeps_length : (s : State) (r : Request) → InOrder s.tables → length s.store ≡ 16384 → length s.sheet ≡ 64
    → (o : Operation) → r.pad ≤ 3 → r.program ≤ 7 → fields_ok (used_by o) r ≡ true → own_refusal o s.tables r ≡ 0
    → length (after_own o s r).state.store ≡ 16384
unfolding own_refusal after_own accepted with_tables after_take after_pass after_recall after_give_back after_read after_write
own_keeps_length s r ok size buf taking p q f e =
    let may = may_take s.tables r p q f e in
    cleared_length (best_fit s.tables.entries r.count) r.count s.store size (best_fits s.tables.entries r.count may.some may.run)
own_keeps_length s r ok size buf passing p q f e = size
own_keeps_length s r ok size buf recalling p q f e = size
own_keeps_length s r ok size buf giving_back p q f e =
    let k = asked s.tables r in
    let grant = head_grant k.kind (taken_head k.kind (may_give_back s.tables r e)) in
    cleared_length k.first k.count s.store size (ok.rules.span (asked_name r) grant).fits
own_keeps_length s r ok size buf reading p q f e = size
own_keeps_length s r ok size buf writing p q f e =
    let may : MayUse s.tables r = may_use s.tables r 2 e in
    length_put (sheet_of s.tables r) 1 s.sheet s.store size buf (omega (arith, may.low, (ok.rules.span (asked_name r) may.grant).fits))

serve_keeps_length : (s : State) (r : Request) → InOrder s.tables → length s.store ≡ 16384 → length s.sheet ≡ 64 → length (serve s r).state.store ≡ 16384
unfolding serve outcome refused with_tables
serve_keeps_length s r ok size buf = go (case (eqb (request_refusal s.tables r) 0)) (case (eqb (request_refusal s.tables r) 12))
  where
    go : Case (eqb (request_refusal s.tables r) 0) → Case (eqb (request_refusal s.tables r) 12) → length (serve s r).state.store ≡ 16384
    go (pass e) _ =
        let p : Past s.tables r 0 = past_request s.tables r 0 late_0 (eqb-true (request_refusal s.tables r) 0 e) in
        rw e (own_keeps_length s r ok size buf (operation_of r.op) p.pad p.program p.fields p.own)
    go (fail f) (pass e) = rw (f, e) size
    go (fail f) (fail e) = rw (f, e) size

-- ---- one request
-- past 13 and 14 the step is `serve`
pub step_is_serve : (s : State) (r : Request) → InOrder s.tables → length s.store ≡ 16384 → length s.sheet ≡ 64 → step s r ≡ serve s r
unfolding step serve refusal ◌when◌else◌ lengths_ok
step_is_serve s r ok a b = rw (eq-eqb (length s.store) 16384 a, eq-eqb (length s.sheet) 64 b, order_passes_test s.tables ok)

module _ (s : State) (r : Request) (ok : DockOk s) (buf : length s.sheet ≡ 64) where
  is_serve : step s r ≡ serve s r
  is_serve = step_is_serve s r ok.tables ok.store buf

  pub serve_keeps_dock : DockOk (serve s r).state
  serve_keeps_dock = record { tables = serve_keeps s r ok.tables; store = serve_keeps_length s r ok.tables ok.store buf }

  pub step_keeps : DockOk (step s r).state
  step_keeps = rw is_serve serve_keeps_dock

  pub result_at_most_12 : (step s r).answer.result ≤ 12
  result_at_most_12 = rw (is_serve, serve_result s r) (request_refusal_low s.tables r)

-- with buffers of any lengths
pub step_keeps_invariant : (s : State) (r : Request) → InOrder s.tables → InOrder (step s r).state.tables
unfolding refused
step_keeps_invariant s r ok = go (case (lengths_ok s))
  where
    go : Case (lengths_ok s) → InOrder (step s r).state.tables
    go (pass e) = let l = whole_lengths s e in (step_keeps s r (record { tables = ok; store = l.0 }) l.1).tables
    go (fail e) = rw (other_length s r e) ok

-- ---- any sequence
pub sequence_keeps : (s : State) → DockOk s → (is : List Sent) → DockOk (after s is)
unfolding after enter
sequence_keeps s ok [] = ok
sequence_keeps s ok (i ∷ is) =
    sequence_keeps (step (enter s i) i.request).state
    (step_keeps (enter s i) i.request (record { tables = ok.tables; store = ok.store }) i.whole) is

pub empty_dock_ok : DockOk empty_dock
unfolding empty_dock
empty_dock_ok = record { tables = empty_invariant; store = length-replicate {A = ℕ} 16384 0 }

-- from an emptied dock 13 and 14 never come
pub never_13_or_14 : (is : List Sent) (i : Sent) → (step (enter (after empty_dock is) i) i.request).answer.result ≤ 12
unfolding enter
never_13_or_14 is i =
    let ok = sequence_keeps empty_dock empty_dock_ok is in
    result_at_most_12 (enter (after empty_dock is) i) i.request (record { tables = ok.tables; store = ok.store }) i.whole

-- ---- the same with the test alone: in order in, in order out
pub step_keeps_order : (s : State) (r : Request) → Sized s.tables → in_order s.tables ≡ true → in_order (step s r).state.tables ≡ true
step_keeps_order s r z e = order_passes_test (step s r).state.tables (step_keeps_invariant s r (test_means_order s.tables z e))
