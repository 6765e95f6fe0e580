-- The four arms that choose used fields choose those of the operation.
use native.Mathlib.Omega.{arith}
use mathlib.Core.Path.{sym, ◌∙◌}
use mathlib.Core.Bool.{true, false}
use Rattle.machine.specs.Refusal.{◌when◌else◌}
use Rattle.machine.specs.Operation.{used_by}
use Rattle.op_form.proofs.Links.{by_fields}
use Rattle.op_form.proofs.Numbers.{op_take, op_pass, ticket_used, sheet_used}
use Rattle.op_form.proofs.refusal.Goals as goal

pub returns-then-fields_ok : goal.returns-then-fields_ok
unfolding ◌when◌else◌ used_by
returns-then-fields_ok c =
    by_fields _ (omega arith) (omega arith) _
    (grind (arith, op_take, op_pass, ticket_used, sheet_used))
    true (sym c.if-fields_ok.true ∙ c.fields_ok.ensures)

pub returns-else-fields_ok : goal.returns-else-fields_ok
unfolding ◌when◌else◌ used_by
returns-else-fields_ok c =
    by_fields _ (omega arith) (omega arith) _
    (grind (arith, op_take, op_pass, ticket_used, sheet_used))
    false (sym c.if-fields_ok.false ∙ c.fields_ok.ensures)
