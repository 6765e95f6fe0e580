-- The result of a request past 13 and 14 is the number of its chain of refusals, and that is at most 12.
-- So 13 and 14 come from the first two tests alone.
use Prim.Native.Nat.{ℕ, ◌≤◌}
use native.Mathlib.Omega.{arith}
use mathlib.Core.Path.{◌≡◌, sym, ◌∙◌}
use mathlib.Core.Bool.{Bool}
use lib.Dec.{eqb}
use borrow.Author.Tests.{eqb-true}
use Rattle.lists.proofs.Tests.{Case, pass, fail, case}
use Rattle.tables.specs.declared.{Name.Name, Tables.Tables}
use Rattle.machine.specs.declared.Request.{Request}
use Rattle.machine.specs.State.{State, refused, asked}
use Rattle.machine.specs.Refusal.{◌when◌else◌}
use Rattle.machine.specs.Operation.{Operation, taking, passing, recalling, giving_back, reading, writing, operation_of}
use Rattle.machine.specs.Dock.{dock_refusal}
use Rattle.machine.specs.Take.{take_refusal}
use Rattle.machine.specs.Pass.{pass_refusal}
use Rattle.machine.specs.Recall.{recall_refusal}
use Rattle.machine.specs.GiveBack.{give_back_refusal}
use Rattle.machine.specs.Access.{sheet_of, access_refusal}
use Rattle.machine.specs.Step.{own_refusal, request_refusal, outcome, serve}
use Rattle.machine.proofs.RefusalLaws.{when_at_most}
use Rattle.machine.proofs.Untouched.{own_result}

pub serve_result : (s : State) (r : Request) → (serve s r).answer.result ≡ request_refusal s.tables r
unfolding serve outcome refused
serve_result s r = go (case (eqb (request_refusal s.tables r) 0)) (case (eqb (request_refusal s.tables r) 12))
  where
    go : Case (eqb (request_refusal s.tables r) 0) → Case (eqb (request_refusal s.tables r) 12) → (serve s r).answer.result ≡ request_refusal s.tables r
    go (pass e) _ = rw e (own_result (operation_of r.op) s r ∙ sym (eqb-true (request_refusal s.tables r) 0 e))
    go (fail d) (pass e) = rw (d, e) (sym (eqb-true (request_refusal s.tables r) 12 e))
    go (fail d) (fail e) = rw (d, e)

-- ---- no chain of refusals answers more than 12
low : (n : ℕ) (b : Bool) (later : ℕ) → n ≤ 12 → later ≤ 12 → (n when b else later) ≤ 12
low = when_at_most 12

pub dock_refusal_low : (t : Tables) (n : Name) (sheet right : ℕ) → dock_refusal t n sheet right ≤ 12
unfolding dock_refusal
dock_refusal_low t n sheet right =
    low 3 _ _ (omega arith) (low 12 _ _ (omega arith) (low 6 _ _ (omega arith) (low 7 _ 0 (omega arith) (omega arith))))

access_low : (right : ℕ) (t : Tables) (r : Request) → access_refusal right t r ≤ 12
unfolding access_refusal
access_low right t r =
    let k = asked t r in
    low 4 _ _ (omega arith) (low 5 _ _ (omega arith) (low 6 _ _ (omega arith) (low 7 _ _ (omega arith)
    (dock_refusal_low t k.dock (sheet_of t r) right))))

own_refusal_low : (o : Operation) (t : Tables) (r : Request) → own_refusal o t r ≤ 12
unfolding own_refusal take_refusal pass_refusal recall_refusal give_back_refusal
own_refusal_low taking t r = low 9 _ _ (omega arith) (low 10 _ _ (omega arith) (low 11 _ 0 (omega arith) (omega arith)))
own_refusal_low passing t r =
    low 4 _ _ (omega arith) (low 5 _ _ (omega arith) (low 8 _ _ (omega arith) (low 6 _ _ (omega arith)
    (low 7 _ _ (omega arith) (low 9 _ _ (omega arith) (low 10 _ _ (omega arith) (low 12 _ 0 (omega arith) (omega arith))))))))
own_refusal_low recalling t r = low 4 _ _ (omega arith) (low 5 _ 0 (omega arith) (omega arith))
own_refusal_low giving_back t r = low 4 _ _ (omega arith) (low 5 _ 0 (omega arith) (omega arith))
own_refusal_low reading t r = access_low 1 t r
own_refusal_low writing t r = access_low 2 t r

pub request_refusal_low : (t : Tables) (r : Request) → request_refusal t r ≤ 12
unfolding request_refusal
request_refusal_low t r = low 1 _ _ (omega arith) (low 2 _ _ (omega arith) (low 3 _ _ (omega arith) (own_refusal_low (operation_of r.op) t r)))
