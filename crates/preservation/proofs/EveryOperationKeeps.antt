-- Every operation keeps the order, and so does the drop on 12: tables in order are in order after any request. By the refusal's number:
-- 0 is the operation, 12 the drop, and any other changes nothing.
use Prim.Native.Nat.{◌≤◌}
use mathlib.Core.Path.{◌≡◌}
use mathlib.Core.Bool.{true}
use lib.Dec.{eqb}
use borrow.Author.Tests.{eqb-true}
use Rattle.lists.proofs.Tests.{Case, pass, fail, case}
use Rattle.machine.specs.declared.Request.{Request}
use Rattle.machine.specs.State.{State, accepted, refused, with_tables}
use Rattle.machine.specs.Operation.{Operation, taking, passing, recalling, giving_back, reading, writing, operation_of, used_by, fields_ok}
use Rattle.machine.specs.Take.{after_take}
use Rattle.machine.specs.Pass.{after_pass}
use Rattle.machine.specs.Recall.{after_recall}
use Rattle.machine.specs.GiveBack.{after_give_back}
use Rattle.machine.specs.Access.{after_read, after_write}
use Rattle.machine.specs.Step.{own_refusal, request_refusal, after_own, outcome, serve}
use Rattle.preservation.specs.InOrder.{InOrder}
use Rattle.preservation.proofs.RemovingOperations.{give_back_keeps, recall_keeps, drop_keeps}
use Rattle.preservation.proofs.Taking.{take_keeps}
use Rattle.preservation.proofs.PassKeeps.{pass_keeps}
use Rattle.preservation.proofs.Preconditions.{Past, late_0, late_12, past_request, may_take, may_pass, may_recall, may_give_back, stale_of}

own_keeps : (s : State) (r : Request) → InOrder s.tables → (o : Operation) → r.pad ≤ 3 → r.program ≤ 7 → fields_ok (used_by o) r ≡ true
    → own_refusal o s.tables r ≡ 0 → InOrder (after_own o s r).state.tables
unfolding own_refusal after_own accepted with_tables after_take after_pass after_recall after_give_back after_read after_write
own_keeps s r ok taking p q f e = take_keeps s.tables ok r (may_take s.tables r p q f e)
own_keeps s r ok passing p q f e = pass_keeps s.tables ok r (may_pass s.tables r p q f e)
own_keeps s r ok recalling p q f e = recall_keeps s.tables r ok (may_recall s.tables r e)
own_keeps s r ok giving_back p q f e = give_back_keeps s.tables r ok (may_give_back s.tables r e)
own_keeps s r ok reading p q f e = ok
own_keeps s r ok writing p q f e = ok

pub serve_keeps : (s : State) (r : Request) → InOrder s.tables → InOrder (serve s r).state.tables
unfolding serve outcome refused with_tables
serve_keeps s r ok = go (case (eqb (request_refusal s.tables r) 0)) (case (eqb (request_refusal s.tables r) 12))
  where
    go : Case (eqb (request_refusal s.tables r) 0) → Case (eqb (request_refusal s.tables r) 12) → InOrder (serve s r).state.tables
    go (pass e) _ =
        let p : Past s.tables r 0 = past_request s.tables r 0 late_0 (eqb-true (request_refusal s.tables r) 0 e) in
        rw e (own_keeps s r ok (operation_of r.op) p.pad p.program p.fields p.own)
    go (fail f) (pass e) =
        let l = stale_of s.tables r (past_request s.tables r 12 late_12 (eqb-true (request_refusal s.tables r) 12 e)) in
        rw (f, e) (drop_keeps s.tables r ok l.grant l.lost)
    go (fail f) (fail e) = rw (f, e) ok
