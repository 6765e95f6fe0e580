-- The names, byte 10 at the end, and the lines under the names: each is one part of the form.
use mathlib.Core.Path.{sym, ◌∙◌}
use native.Mathlib.Omega.{arith}
use Rattle.text.specs.Bytes.{bytes}
use Rattle.saved.specs.Row.{column_names}
use Rattle.text_load.proofs.WholeText.{other_names, no_last_byte, read_under, start_inside}
use Rattle.text_load.proofs.read_text.Goals as goal

pub returns-in_default : goal.returns-in_default
unfolding column_names bytes
returns-in_default c = other_names c.args.text.now _ c.in_default.ensures _

pub overflow_add-end : goal.overflow_add-end
unfolding column_names bytes
overflow_add-end c = omega (arith, start_inside c.args.text.now _ c.in-Ok.ensures)

pub read_lines-requires : goal.read_lines-requires
unfolding column_names bytes
read_lines-requires c = (c.requires, start_inside c.args.text.now _ c.in-Ok.ensures)

pub returns-then-is_ended : goal.returns-then-is_ended
unfolding column_names bytes
returns-then-is_ended c =
    read_under c.args.text.now _ c.in-Ok.ensures (sym c.is_ended.ensures ∙ c.if-is_ended.true) _ _ c.read_lines.ensures

pub returns-else-is_ended : goal.returns-else-is_ended
returns-else-is_ended c = no_last_byte c.args.text.now _ c.is_ended.ensures c.if-is_ended.false _
