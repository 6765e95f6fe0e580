-- The operation by its number, and the fields that it uses.
use Prim.Native.Nat.{ℕ, ◌≤◌}
use native.Mathlib.Omega.{arith}
use mathlib.Core.Path.{◌≡◌, ap}
use lib.Dec.{eqb}
use borrow.Author.Tests.{eqb-true, eqb-false}
use Rattle.lists.proofs.Tests.{Case, pass, fail, case}
use Rattle.machine.specs.Operation.{taking, passing, recalling, giving_back, reading, writing, operation_of, used_by}

module _ (op : ℕ) where
  pub op_take : op ≡ 1 → operation_of op ≡ taking
  unfolding operation_of
  op_take e = ap operation_of e

  pub op_pass : op ≡ 2 → operation_of op ≡ passing
  unfolding operation_of
  op_pass e = ap operation_of e

  pub op_recall : op ≡ 3 → operation_of op ≡ recalling
  unfolding operation_of
  op_recall e = ap operation_of e

  pub op_give_back : op ≡ 4 → operation_of op ≡ giving_back
  unfolding operation_of
  op_give_back e = ap operation_of e

  pub op_read : op ≡ 5 → operation_of op ≡ reading
  unfolding operation_of
  op_read e = ap operation_of e

  pub op_write : op ≡ 6 → operation_of op ≡ writing
  unfolding operation_of
  op_write e = ap operation_of e

  -- recall and give back use the same fields
  pub ticket_used : 3 ≤ op → op ≤ 4 → used_by (operation_of op) ≡ used_by recalling
  unfolding used_by
  ticket_used l h = go (case (eqb op 3))
    where
      go : Case (eqb op 3) → used_by (operation_of op) ≡ used_by recalling
      go (pass e) = ap used_by (op_recall (eqb-true op 3 e))
      go (fail e) = ap used_by (op_give_back (omega (arith, eqb-false op 3 e)))

  -- and so do read and write
  pub sheet_used : 5 ≤ op → op ≤ 6 → used_by (operation_of op) ≡ used_by reading
  unfolding used_by
  sheet_used l h = go (case (eqb op 5))
    where
      go : Case (eqb op 5) → used_by (operation_of op) ≡ used_by reading
      go (pass e) = ap used_by (op_read (eqb-true op 5 e))
      go (fail e) = ap used_by (op_write (omega (arith, eqb-false op 5 e)))
