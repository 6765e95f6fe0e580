-- Whole texts: document 01's M1, lines of every form, and the refused inputs, computed from the definitions; the outputs are those of an
-- independent model of the rules.
use Prim.Native.Nat.{ℕ}
use Prim.Native.String.{String}
use mathlib.Core.List.{List, [], ◌∷◌, ◌++◌}
use mathlib.Core.Path.{◌≡◌, refl}
use Rattle.lists.specs.Tests.{implies, between}
use Rattle.lists.specs.Lists.{first_index, all, some, keep, no_two, all_at, some_at, map_at, least}
use Rattle.rights.specs.Rules.{within}
use Rattle.tables.specs.Names.{eq_name, is_program, same_program, empty_tables}
use Rattle.tables.specs.Lookup.{has_number, ticket_in, lookup, is_named, entry_in}
use Rattle.tables.specs.Chains.{reaches, end_of}
use Rattle.tables.specs.Sheets.{apart, inside, outside, is_free_run, lowest_run, has_run}
use Rattle.tables.specs.Order.{every_ticket_of, every_ticket, some_ticket_of, some_ticket, every_entry, numbers_ok, t1, span_ok, t2, parent_ok, child_ok, t3, t4, entry_names_ok, grant_ok, parent_entry_ok, entry_ok, roots_ok, t5, recall_parent_ok, is_child_of, far_target_ok, target_ok, recall_ok, t6, in_order}
use Rattle.tables.specs.Change.{is_free, has_place, with_ticket, with_program, give, is_spare, put_entry, drop_ticket, drop_in_program, drop_in_pad, drop_tickets, drop_entry, drop_entries}
use Rattle.best_fit.specs.BestFit.{run_at, smallest_below, best_fit}
use Rattle.machine.specs.State.{accepted, refused, with_tables, sheet_at, put_sheets, clear_sheets}
use Rattle.machine.specs.Refusal.{◌when◌else◌, is_spent}
use Rattle.machine.specs.Operation.{operation_of, used_by, field_ok, fields_ok}
use Rattle.machine.specs.Take.{take_refusal, take_tables, after_take}
use Rattle.machine.specs.Pass.{pass_refusal, pass_tables, after_pass}
use Rattle.machine.specs.Recall.{recall_refusal, lent_away, recall_tables, after_recall}
use Rattle.machine.specs.GiveBack.{give_back_refusal, give_back_tables, after_give_back}
use Rattle.machine.specs.Dock.{dock_refusal, dock_check}
use Rattle.machine.specs.Access.{access_refusal, after_read, after_write}
use Rattle.machine.specs.Step.{own_refusal, request_refusal, lengths_ok, refusal, after_own, drop_head, outcome, step}
use Rattle.machine.specs.Empty.{emptied, empty_dock}
use Rattle.machine.specs.Sequence.{enter}
use Rattle.text.specs.Bytes.{bytes, line_end, same_bytes}
use Rattle.text.specs.Reading.{in_front, cut, lines, fields, is_digit, number_from, is_number, no_leading_zero, is_value, has_values, values_of}
use Rattle.text.specs.Names.{named, behind_names}
use Rattle.text.specs.Writing.{digits, places, decimal, behind, values_line}
use Rattle.trace_texts.specs.Line.{fill_ok, in_form, sent_by, answer_line, first_byte, other_line}
use Rattle.trace_texts.specs.Trace.{input_names, output_names, answer_to, left_by_line, answers, input_ok, trace_from, trace}

-- lines, each ended by byte 10
unfoldable pub ended : List String → List ℕ
ended [] = []
ended (line ∷ later) = bytes line ++ line_end ∷ ended later

unfoldable pub m1_input : List ℕ
m1_input = ended (
    "pad program op ticket topad toprogram first count rights fill" ∷
    "0 0 1 0 0 0 0 4 7 0" ∷
    "0 0 2 1 0 1 0 2 3 0" ∷
    "0 0 2 1 1 0 2 2 1 0" ∷
    "0 1 6 1 0 0 1 0 0 9" ∷
    "0 0 5 1 0 0 1 0 0 0" ∷
    "1 0 6 1 0 0 0 0 0 9" ∷
    "0 0 3 2 0 0 0 0 0 0" ∷
    "0 1 5 1 0 0 1 0 0 0" ∷
    "0 0 3 3 0 0 0 0 0 0" ∷
    "1 0 5 1 0 0 0 0 0 0" ∷
    "1 0 5 1 0 0 0 0 0 0" ∷
    [])

unfoldable pub m1_output : List ℕ
m1_output = ended (
    "line result ticket recipient byte" ∷
    "1 0 1 0 0" ∷
    "2 0 2 1 0" ∷
    "3 0 3 1 0" ∷
    "4 0 0 0 0" ∷
    "5 0 0 0 9" ∷
    "6 7 0 0 0" ∷
    "7 0 0 0 0" ∷
    "8 4 0 0 0" ∷
    "9 0 0 0 0" ∷
    "10 12 0 0 0" ∷
    "11 4 0 0 0" ∷
    [])

unfoldable pub forms_input : List ℕ
forms_input = ended (
    "pad program op ticket topad toprogram first count rights fill" ∷
    "0 0 1 0 0 0 0 1 7 0" ∷
    "00 0 1 0 0 0 0 1 7 0" ∷
    "0 0 1 0 0 0 0 01 7 0" ∷
    "0  0 1 0 0 0 0 1 7 0" ∷
    " 0 0 1 0 0 0 0 1 7 0" ∷
    "0 0 1 0 0 0 0 1 7 0 " ∷
    "0 0 1 0 0 0 0 1 7" ∷
    "0 0 1 0 0 0 0 1 7 0 0" ∷
    "0 0 1 0 0 0 0 65535 7 0" ∷
    "0 0 1 0 0 0 0 65536 7 0" ∷
    "0 0 1 0 0 0 0 99999 7 0" ∷
    "0 0 1 0 0 0 0 100000000000000000000 7 0" ∷
    "0 0 1 0 0 0 0 1 7 1" ∷
    "0 0 6 1 0 0 0 0 0 255" ∷
    "0 0 6 1 0 0 0 0 0 256" ∷
    "0 0 5 1 0 0 0 0 0 0" ∷
    "4 0 6 1 0 0 0 0 0 255" ∷
    "0 0 7 0 0 0 0 0 0 9" ∷
    "0 0 7 0 0 0 0 0 0 0" ∷
    "-1 0 1 0 0 0 0 1 7 0" ∷
    "+1 0 1 0 0 0 0 1 7 0" ∷
    "0\t0 1 0 0 0 0 1 7 0" ∷
    "a" ∷
    "0 0 1 0 0 0 0 1 7 0x" ∷
    "65535 65535 65535 65535 65535 65535 65535 65535 65535 0" ∷
    [])

unfoldable pub forms_output : List ℕ
forms_output = ended (
    "line result ticket recipient byte" ∷
    "1 0 1 0 0" ∷
    "2 15 0 0 0" ∷
    "3 15 0 0 0" ∷
    "4 15 0 0 0" ∷
    "5 15 0 0 0" ∷
    "6 15 0 0 0" ∷
    "7 15 0 0 0" ∷
    "8 15 0 0 0" ∷
    "9 3 0 0 0" ∷
    "10 15 0 0 0" ∷
    "11 15 0 0 0" ∷
    "12 15 0 0 0" ∷
    "13 15 0 0 0" ∷
    "14 0 0 0 0" ∷
    "15 15 0 0 0" ∷
    "16 0 0 0 255" ∷
    "17 1 0 0 0" ∷
    "18 15 0 0 0" ∷
    "19 2 0 0 0" ∷
    "20 15 0 0 0" ∷
    "21 15 0 0 0" ∷
    "22 15 0 0 0" ∷
    "23 15 0 0 0" ∷
    "24 15 0 0 0" ∷
    "25 1 0 0 0" ∷
    [])

-- an input that is refused
unfoldable pub refused_output : List ℕ
refused_output = ended ("line result ticket recipient byte" ∷ "0 15 0 0 0" ∷ [])

unfoldable pub names : List ℕ
names = bytes "pad program op ticket topad toprogram first count rights fill"

pub record Texts : Type 0 where
  pub m1 : trace m1_input ≡ m1_output
  pub forms : trace forms_input ≡ forms_output
  pub empty : trace [] ≡ refused_output
  pub other_names : trace (names ++ 13 ∷ line_end ∷ []) ≡ refused_output
  pub names_only : trace names ≡ ended ("line result ticket recipient byte" ∷ [])
  pub names_ended : trace (names ++ line_end ∷ []) ≡ ended ("line result ticket recipient byte" ∷ [])
  pub blank_line : trace (names ++ line_end ∷ line_end ∷ []) ≡ ended ("line result ticket recipient byte" ∷ "1 15 0 0 0" ∷ [])
  pub no_last_end : trace (names ++ line_end ∷ bytes "0 0 1 0 0 0 0 1 7 0") ≡ ended ("line result ticket recipient byte" ∷ "1 0 1 0 0" ∷ [])

pub texts : Texts
unfolding implies between first_index all some keep no_two all_at some_at map_at least within
    eq_name is_program same_program empty_tables has_number ticket_in lookup is_named entry_in reaches end_of
    apart inside outside is_free_run lowest_run has_run run_at smallest_below best_fit
    every_ticket_of every_ticket some_ticket_of some_ticket every_entry numbers_ok t1 span_ok t2 parent_ok child_ok t3 t4
    entry_names_ok grant_ok parent_entry_ok entry_ok roots_ok t5 recall_parent_ok is_child_of far_target_ok target_ok recall_ok t6 in_order
    is_free has_place with_ticket with_program give is_spare put_entry drop_ticket drop_in_program drop_in_pad drop_tickets drop_entry drop_entries
    accepted refused with_tables sheet_at put_sheets clear_sheets ◌when◌else◌ is_spent operation_of used_by field_ok fields_ok
    take_refusal take_tables after_take pass_refusal pass_tables after_pass recall_refusal lent_away recall_tables after_recall
    give_back_refusal give_back_tables after_give_back dock_refusal dock_check access_refusal after_read after_write
    own_refusal request_refusal lengths_ok refusal after_own drop_head outcome step emptied empty_dock
    bytes same_bytes in_front cut lines fields is_digit number_from is_number no_leading_zero is_value has_values values_of
    digits places decimal behind values_line enter fill_ok in_form sent_by answer_line first_byte other_line
    input_names output_names answer_to left_by_line answers named behind_names input_ok trace_from ended m1_input m1_output forms_input forms_output refused_output names
texts = record {
  m1 = refl;
  forms = refl;
  empty = refl;
  other_names = refl;
  names_only = refl;
  names_ended = refl;
  blank_line = refl;
  no_last_end = refl;
}
