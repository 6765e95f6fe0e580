-- Every case comes out as written, by the step itself, 13 and 14 included. The claims are computed: the checker runs the definitions on
-- each line, and a wrong answer in a table or a wrong test in a definition is refused.
use mathlib.Core.Path.{◌≡◌, refl}
use mathlib.Core.Bool.{true}
use lib.ListN.{replicate}
use Rattle.lists.specs.Tests.{implies, between}
use Rattle.lists.specs.Lists.{first_index, all, some, keep, no_two, all_at, some_at, map_at, least}
use Rattle.rights.specs.Rules.{within}
use Rattle.tables.specs.Names.{name_of, eq_name, is_program, same_program, empty_tables}
use Rattle.tables.specs.Lookup.{has_number, ticket_in, lookup, is_named, entry_in}
use Rattle.tables.specs.Chains.{reaches, end_of}
use Rattle.tables.specs.Sheets.{apart, inside, outside, is_free_run, lowest_run, has_run}
use Rattle.tables.specs.Order.{every_ticket_of, every_ticket, some_ticket_of, some_ticket, every_entry, numbers_ok, t1, span_ok, t2, parent_ok, child_ok, t3, t4, entry_names_ok, grant_ok, parent_entry_ok, entry_ok, roots_ok, t5, recall_parent_ok, is_child_of, far_target_ok, target_ok, recall_ok, t6, in_order}
use Rattle.tables.specs.Change.{is_free, has_place, with_ticket, with_program, give, is_spare, put_entry, drop_ticket, drop_in_program, drop_in_pad, drop_tickets, drop_entry, drop_entries}
use Rattle.best_fit.specs.BestFit.{run_at, smallest_below, best_fit}
use Rattle.machine.specs.State.{accepted, refused, with_tables, sheet_at, put_sheets, clear_sheets}
use Rattle.machine.specs.Refusal.{◌when◌else◌, is_spent}
use Rattle.machine.specs.Operation.{operation_of, used_by, field_ok, fields_ok}
use Rattle.machine.specs.Take.{take_refusal, take_tables, after_take}
use Rattle.machine.specs.Pass.{pass_refusal, pass_tables, after_pass}
use Rattle.machine.specs.Recall.{recall_refusal, lent_away, recall_tables, after_recall}
use Rattle.machine.specs.GiveBack.{give_back_refusal, give_back_tables, after_give_back}
use Rattle.machine.specs.Dock.{dock_refusal, dock_check}
use Rattle.machine.specs.Access.{access_refusal, after_read, after_write}
use Rattle.machine.specs.Step.{own_refusal, request_refusal, lengths_ok, refusal, after_own, drop_head, outcome, step}
use Rattle.machine.specs.Empty.{emptied, empty_store, empty_dock}
use Rattle.machine.proofs.CaseLines.{request, served, same_answer, shown_byte, holds, leaves}
use Rattle.machine.proofs.WorkedCases.{worked_cases}
use Rattle.machine.proofs.Traps.{traps}
use Rattle.machine.proofs.RefusalOrder.{refusals_from_empty, exhausted}
use Rattle.machine.proofs.EdgeCases.{out_of_order, from_start, starts, answered, lent, smallest, store_given_back}

pub record CasesHold : Type 0 where
  -- M1 to M11
  pub worked : all (holds empty_dock) worked_cases ≡ true
  pub avoided : all (holds empty_dock) traps ≡ true
  pub refusals : all (holds empty_dock) refusals_from_empty ≡ true
  pub from_lent : all from_start starts ≡ true
  pub short_sheet : refusal (record { tables = empty_tables; store = empty_store; sheet = replicate 63 0 }) (request 0 0 0 0 0 0 0 0 0) ≡ 13
  pub dock_lent : answered lent ≡ true
  pub dock_smallest : answered smallest ≡ true
  pub dock_order : dock_check out_of_order (name_of 0 0 1) 256 0 ≡ 14
  pub given_back : store_given_back ≡ empty_store
  pub emptied_whole : emptied (replicate 16384 9) ≡ record { result = 0; tables = empty_tables; store = empty_store }
  pub emptied_other : emptied (replicate 16383 9) ≡ record { result = 13; tables = empty_tables; store = replicate 16383 9 }

pub cases_hold : CasesHold
unfolding implies between first_index all some keep no_two all_at some_at map_at least within
    eq_name is_program same_program empty_tables has_number ticket_in lookup is_named entry_in reaches end_of
    apart inside outside is_free_run lowest_run has_run run_at smallest_below best_fit
    every_ticket_of every_ticket some_ticket_of some_ticket every_entry numbers_ok t1 span_ok t2 parent_ok child_ok t3 t4
    entry_names_ok grant_ok parent_entry_ok entry_ok roots_ok t5 recall_parent_ok is_child_of far_target_ok target_ok recall_ok t6 in_order
    is_free has_place with_ticket with_program give is_spare put_entry drop_ticket drop_in_program drop_in_pad drop_tickets drop_entry drop_entries
    accepted refused with_tables sheet_at put_sheets clear_sheets ◌when◌else◌ is_spent operation_of used_by field_ok fields_ok
    take_refusal take_tables after_take pass_refusal pass_tables after_pass recall_refusal lent_away recall_tables after_recall
    give_back_refusal give_back_tables after_give_back dock_refusal dock_check access_refusal after_read after_write
    own_refusal request_refusal lengths_ok refusal after_own drop_head outcome step emptied empty_dock
    served same_answer shown_byte holds leaves exhausted from_start answered store_given_back
cases_hold = record {
  worked = refl;
  avoided = refl;
  refusals = refl;
  from_lent = refl;
  short_sheet = refl;
  dock_lent = refl;
  dock_smallest = refl;
  dock_order = refl;
  given_back = refl;
  emptied_whole = refl;
  emptied_other = refl;
}
