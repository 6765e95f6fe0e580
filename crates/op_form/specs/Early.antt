-- The refusals before every operation that the request alone decides: the head of `request_refusal`, with 0 for "none of these".
use Rattle.std.specs.Prelude.{ℕ, not}
use Rattle.lists.specs.Tests.{between}
use Rattle.tables.specs.Names.{is_program}
use Rattle.machine.specs.declared.Request.{Request}
use Rattle.machine.specs.Refusal.{◌when◌else◌}
use Rattle.machine.specs.Operation.{Fields, operation_of, used_by, fields_ok}
use Rattle.op_form.specs.declared.Used.{Used}

-- the code's record of used fields as the machine's
abbrev pub fields_of : Used → Fields
fields_of used =
    record { ticket = used.ticket; recipient = used.recipient; first = used.first; count = used.count; rights = used.rights }

-- "1 pad above 3 or program above 7; 2 op outside 1 to 6; 3 a used field out of range or an unused one not 0."
unfoldable pub early_refusal : Request → ℕ
early_refusal r =
    1 when not (is_program r.pad r.program) else
    2 when not (between 1 6 r.op) else
    3 when not (fields_ok (used_by (operation_of r.op)) r) else
    0
