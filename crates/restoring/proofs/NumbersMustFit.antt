-- Computed: without `NumbersFit` the theorem is false. Tables of the arrays' lengths, in order, whose only content is a last number of 65,536:
-- what is saved of them is no text in form. Tables in bytes cannot hold such a number.
use mathlib.Core.Path.{◌≡◌, refl}
use mathlib.Core.Bool.{true, cond}
use mathlib.Core.List.{[], flat_map}
use Rattle.lists.specs.Tests.{implies, between}
use Rattle.lists.specs.Lists.{all, some, no_two, all_at, keep, filled, put_into, sorted_by}
use Rattle.lists.specs.Parts.{tabulate}
use Rattle.tables.specs.declared.Tables.{Tables}
use Rattle.tables.specs.Names.{is_program, same_program}
use Rattle.tables.specs.Lookup.{Sized}
use Rattle.tables.specs.Order.{every_ticket_of, every_ticket, every_entry, numbers_ok, t1, t2, t3, t4, entry_names_ok, roots_ok, t5, t6, in_order}
use Rattle.machine.specs.Refusal.{◌when◌else◌}
use Rattle.text.specs.Bytes.{bytes, same_bytes}
use Rattle.text.specs.Reading.{in_front, cut, lines, fields, is_digit, number_from, is_number, no_leading_zero, is_value, has_values, values_of}
use Rattle.text.specs.Names.{named, behind_names}
use Rattle.text.specs.Writing.{digits, places, decimal, behind, values_line}
use Rattle.saved.specs.Row.{column_names, zero_unless, own_ok, other_ok, sheets_ok, row_ok, line_ok, key}
use Rattle.saved.specs.Save.{programs, last_row, ticket_rows, rows_found, rows_of, text_of, saved}
use Rattle.saved.specs.Load.{is_ended, form_ok, program_from, tables_with, load_refusal, load}
use Rattle.saved.proofs.TablesOfLines.{with_sized}

unfoldable pub large : Tables
large = tables_with (λ n. n) (λ pad program. cond (same_program pad program 0 0) 65536 0) []

pub large_sized : Sized large
unfolding large
large_sized = with_sized (λ n. n) (λ pad program. cond (same_program pad program 0 0) 65536 0) []

pub large_in_order : in_order large ≡ true
unfolding large tables_with program_from same_program filled keep tabulate in_order every_ticket_of every_ticket every_entry numbers_ok t1 t2 t3 t4
    entry_names_ok roots_ok t5 t6 all no_two all_at some implies between
large_in_order = refl

pub large_refused : (load (saved large)).result ≡ 18
unfolding large tables_with program_from same_program filled keep tabulate load load_refusal ◌when◌else◌ form_ok named behind_names is_ended all saved text_of
    rows_of rows_found programs last_row ticket_rows sorted_by put_into key column_names bytes same_bytes flat_map values_line behind decimal digits places
    lines cut in_front line_ok has_values fields is_value is_number is_digit number_from no_leading_zero between row_ok is_program own_ok other_ok sheets_ok
    zero_unless values_of
large_refused = refl
