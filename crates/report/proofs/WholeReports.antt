-- Reports after short traces, computed; the texts are those of an independent model of the rules.
use mathlib.Core.Path.{◌≡◌, refl}
use Rattle.lists.specs.Tests.{implies, between}
use Rattle.lists.specs.Lists.{first_index, all, keep, count_below, some, no_two, all_at, some_at, map_at, least}
use Rattle.rights.specs.Rules.{within}
use Rattle.tables.specs.Names.{eq_name, is_program, same_program, empty_tables}
use Rattle.tables.specs.Lookup.{has_number, ticket_in, lookup, is_named, entry_in, names_of}
use Rattle.tables.specs.Chains.{reaches, end_of, is_recall_of}
use Rattle.tables.specs.Sheets.{apart, inside, outside, is_free_run, lowest_run, has_run, is_free_sheet, sheets_free}
use Rattle.tables.specs.Order.{every_ticket_of, every_ticket, some_ticket_of, some_ticket, every_entry, numbers_ok, t1, span_ok, t2, parent_ok, child_ok, t3, t4}
use Rattle.tables.specs.Order.{entry_names_ok, grant_ok, parent_entry_ok, entry_ok, roots_ok, t5, recall_parent_ok, is_child_of, far_target_ok, target_ok, recall_ok, t6, in_order}
use Rattle.tables.specs.Change.{is_free, has_place, with_ticket, with_program, give, is_spare}
use Rattle.tables.specs.Change.{put_entry, drop_ticket, drop_in_program, drop_in_pad, drop_tickets, drop_entry, drop_entries}
use Rattle.best_fit.specs.BestFit.{run_at, smallest_below, best_fit}
use Rattle.machine.specs.State.{accepted, refused, with_tables, sheet_at, put_sheets, clear_sheets}
use Rattle.machine.specs.Refusal.{◌when◌else◌, is_spent}
use Rattle.machine.specs.Operation.{operation_of, used_by, field_ok, fields_ok}
use Rattle.machine.specs.Take.{take_refusal, take_tables, after_take}
use Rattle.machine.specs.Pass.{pass_refusal, pass_tables, after_pass}
use Rattle.machine.specs.Recall.{recall_refusal, lent_away, recall_tables, after_recall}
use Rattle.machine.specs.GiveBack.{give_back_refusal, give_back_tables, after_give_back}
use Rattle.machine.specs.Dock.{dock_refusal, dock_check}
use Rattle.machine.specs.Access.{access_refusal, after_read, after_write}
use Rattle.machine.specs.Step.{own_refusal, request_refusal, lengths_ok, refusal, after_own, drop_head, outcome, step}
use Rattle.machine.specs.Empty.{emptied, empty_dock}
use Prim.Native.Nat.{ℕ}
use Prim.Native.String.{String}
use mathlib.Core.List.{List, [], ◌∷◌, ◌++◌, flat_map}
use Rattle.machine.proofs.CaseLines.{Line, Expected, line, gives, served, leaves}
use Rattle.lists.specs.Parts.{tabulate, joined}
use Rattle.text.specs.Bytes.{bytes, line_end}
use Rattle.text.specs.Writing.{digits, places, decimal, behind, values_line}
use Rattle.report.specs.Rows.{taken_grants, is_listed, loans_of, rows_from, rows}
use Rattle.report.specs.Report.{report_names, row_line, taken_in, report}

abbrev pub none : Expected
none = gives 0 0 0 0

-- lines, each ended by byte 10
unfoldable pub ended : List String → List ℕ
ended [] = []
ended (line ∷ later) = bytes line ++ line_end ∷ ended later

abbrev pub empty : List Line
empty = []

abbrev pub m1 : List Line
m1 =
    line 0 0 1 0 0 0 0 4 7 0 none ∷
    line 0 0 2 1 0 1 0 2 3 0 none ∷
    line 0 0 2 1 1 0 2 2 1 0 none ∷
    []

abbrev pub ring : List Line
ring =
    line 2 5 1 0 0 0 0 3 7 0 none ∷
    line 0 1 1 0 0 0 0 2 7 0 none ∷
    line 0 1 2 1 1 0 0 2 7 0 none ∷
    line 1 0 2 1 0 3 0 2 7 0 none ∷
    line 0 3 2 1 0 1 0 1 5 0 none ∷
    line 0 1 2 1 0 2 1 1 3 0 none ∷
    line 0 1 2 3 0 2 0 1 1 0 none ∷
    []

abbrev pub gone : List Line
gone =
    line 0 0 1 0 0 0 0 4 7 0 none ∷
    line 0 0 2 1 1 0 0 4 7 0 none ∷
    line 1 0 2 1 1 1 0 2 5 0 none ∷
    line 1 1 2 1 2 0 0 1 4 0 none ∷
    line 0 0 2 1 3 0 1 1 1 0 none ∷
    line 0 0 3 2 0 0 0 0 0 0 none ∷
    []

abbrev pub random3 : List Line
random3 =
    line 0 7 1 0 0 0 0 3 7 0 none ∷
    line 0 7 2 1 2 2 0 3 2 0 none ∷
    line 0 7 3 1 0 0 0 0 0 0 none ∷
    line 2 2 5 1 0 0 0 0 0 0 none ∷
    line 0 7 1 0 0 0 0 1 1 0 none ∷
    line 2 2 1 0 0 0 0 90 7 0 none ∷
    line 0 7 1 0 0 0 0 18 4 0 none ∷
    line 0 7 6 3 0 0 0 0 0 50 none ∷
    line 7 2 5 2 0 0 60 0 0 0 none ∷
    line 0 7 4 1 0 0 0 0 0 0 none ∷
    line 0 7 5 3 0 0 0 0 0 0 none ∷
    line 0 7 1 0 0 0 0 1 4 0 none ∷
    line 2 2 1 0 0 0 0 2 1 0 none ∷
    line 0 7 3 1 0 0 0 0 0 0 none ∷
    line 2 2 2 5 0 7 0 4 7 0 none ∷
    line 0 7 3 5 0 0 0 0 0 0 none ∷
    line 2 2 5 1 0 0 0 0 0 0 none ∷
    line 2 2 2 2 0 7 0 90 7 0 none ∷
    line 2 2 2 3 0 7 0 90 7 0 none ∷
    line 2 2 6 4 0 0 3 0 0 228 none ∷
    line 2 2 5 1 0 0 1 0 0 0 none ∷
    line 0 7 2 5 2 2 0 1 4 0 none ∷
    line 2 2 1 0 0 0 0 10 7 0 none ∷
    line 2 2 6 2 0 0 25 0 0 61 none ∷
    line 0 254 5 3 0 0 0 0 0 0 none ∷
    line 2 2 5 2 0 0 24 0 0 0 none ∷
    line 0 7 5 4 257 0 11 0 0 0 none ∷
    line 2 2 2 5 0 254 0 256 4 0 none ∷
    line 2 2 2 5 0 7 0 2 4 0 none ∷
    line 0 7 2 6 2 2 0 90 0 0 none ∷
    []

abbrev pub random7 : List Line
random7 =
    line 2 3 1 0 0 0 0 3 7 0 none ∷
    line 2 5 1 0 0 0 0 1 2 0 none ∷
    line 2 3 2 1 0 5 0 3 4 0 none ∷
    line 0 5 2 1 2 5 0 3 4 0 none ∷
    line 2 5 2 2 2 3 0 3 4 0 none ∷
    line 1 7 1 0 0 0 0 4 5 0 none ∷
    line 2 3 2 3 1 7 0 3 4 0 none ∷
    line 0 5 1 0 0 0 0 4 7 0 none ∷
    line 4 7 2 8 2 0 6 257 1 0 none ∷
    line 0 5 5 1 0 0 1 0 0 0 none ∷
    line 1 7 5 2 0 0 2 0 0 0 none ∷
    line 0 5 5 3 0 0 2 0 0 0 none ∷
    line 0 5 2 1 2 5 0 3 4 0 none ∷
    line 1 7 6 1 0 0 1 0 0 163 none ∷
    line 2 5 2 4 2 3 0 3 4 0 none ∷
    line 0 5 5 3 0 0 2 0 0 0 none ∷
    line 0 5 2 1 2 3 0 3 4 0 none ∷
    line 2 5 1 0 0 0 0 3 7 0 none ∷
    line 2 3 2 5 2 5 0 3 4 0 none ∷
    line 2 5 2 4 1 7 0 3 4 0 none ∷
    line 2 3 6 1 0 0 2 0 0 56 none ∷
    line 1 7 6 3 0 0 0 0 0 149 none ∷
    line 0 5 1 0 0 0 0 65534 7 0 none ∷
    line 2 5 5 7 0 0 2 0 254 0 none ∷
    line 2 3 5 6 0 0 1 0 0 0 none ∷
    line 2 5 5 2 0 0 0 8 0 0 none ∷
    line 2 5 2 2 2 3 0 3 4 0 none ∷
    line 2 3 5 1 0 0 2 0 0 0 none ∷
    line 0 5 2 32768 1 7 0 3 4 0 none ∷
    line 2 5 2 4 8 5 0 3 4 0 none ∷
    []

abbrev pub random11 : List Line
random11 =
    line 2 0 2 65535 0 0 0 0 0 0 none ∷
    line 0 1 1 0 0 0 0 1 7 0 none ∷
    line 2 0 1 0 0 0 0 1 7 0 none ∷
    line 2 0 0 1 0 1 0 256 7 0 none ∷
    line 0 1 1 0 0 0 0 1 7 0 none ∷
    line 2 0 5 1 0 0 0 0 0 0 none ∷
    line 2 0 1 0 0 0 0 1 7 0 none ∷
    line 2 0 2 1 0 1 0 1 7 0 none ∷
    line 0 1 5 1 0 0 0 0 0 0 none ∷
    line 0 1 6 2 0 0 0 0 0 248 none ∷
    line 2 0 1 0 0 0 0 1 7 0 none ∷
    line 0 1 2 1 2 0 0 1 7 0 none ∷
    line 0 1 6 2 0 0 0 0 0 120 none ∷
    line 2 0 2 258 0 1 0 1 7 0 none ∷
    line 0 1 2 3 2 0 0 1 7 0 none ∷
    line 2 0 5 6 0 0 0 0 0 0 none ∷
    line 2 0 2 6 0 1 0 1 7 0 none ∷
    line 0 1 3 5 0 0 0 0 0 0 none ∷
    line 0 1 1 0 0 0 0 1 7 0 none ∷
    line 2 0 5 5 0 0 0 0 0 0 none ∷
    line 0 1 1 0 0 0 0 1 7 0 none ∷
    line 2 0 2 5 0 1 0 1 7 0 none ∷
    line 0 1 1 0 0 0 0 1 7 0 none ∷
    line 0 1 1 0 0 0 0 1 7 0 none ∷
    line 0 1 1 0 0 0 0 1 7 0 none ∷
    line 0 1 1 0 0 0 0 1 7 0 none ∷
    line 0 1 1 0 0 0 0 1 7 0 none ∷
    line 0 1 1 0 0 0 0 1 7 0 none ∷
    line 0 1 1 0 0 0 0 1 7 0 none ∷
    []

abbrev pub random15 : List Line
random15 =
    line 3 3 1 0 0 0 0 1 5 0 none ∷
    line 3 3 3 1 0 0 0 0 0 0 none ∷
    line 3 5 1 0 0 0 0 1 6 0 none ∷
    line 3 3 2 1 3 5 0 1 5 0 none ∷
    line 3 5 2 2 3 7 0 1 5 0 none ∷
    line 3 5 2 2 3 7 0 1 5 0 none ∷
    line 3 7 5 2 0 0 0 0 0 0 none ∷
    line 3 7 5 2 0 0 0 0 0 0 none ∷
    line 3 5 5 1 0 0 0 0 0 0 none ∷
    line 3 3 1 0 0 0 0 1 7 0 none ∷
    line 3 5 3 4 0 0 0 0 0 0 none ∷
    line 3 5 1 0 0 0 0 1 3 0 none ∷
    line 3 5 2 2 3 3 0 1 5 0 none ∷
    line 3 3 2 4 3 7 0 2 4 0 none ∷
    line 3 5 3 6 0 0 0 0 0 0 none ∷
    line 3 5 1 0 0 0 0 1 7 0 none ∷
    line 3 5 2 2 3 3 0 1 1 0 none ∷
    line 3 7 2 1 3 3 0 256 4 0 none ∷
    line 3 5 2 2 3 7 0 1 5 0 none ∷
    line 3 5 3 9 0 0 0 0 0 0 none ∷
    line 3 5 2 2 3 7 255 1 5 0 none ∷
    line 3 7 1 0 0 0 0 1 7 0 none ∷
    line 3 5 2 2 3 3 0 1 4 0 none ∷
    line 3 5 2 2 3 7 0 1 5 0 none ∷
    line 3 3 1 0 0 0 0 1 7 0 none ∷
    line 3 7 2 5 3 3 0 1 5 0 none ∷
    line 3 5 5 5 0 0 0 0 0 0 none ∷
    line 3 3 1 0 0 0 0 1 7 0 none ∷
    line 3 7 1 0 0 0 0 1 7 0 none ∷
    []

abbrev pub random21 : List Line
random21 =
    line 0 5 1 0 0 0 0 2 6 0 none ∷
    line 0 5 2 1 1 7 0 2 6 0 none ∷
    line 1 7 2 1 1 1 1 1 6 0 none ∷
    line 1 1 2 1 1 4 0 1 6 0 none ∷
    line 1 4 2 1 1 2 0 1 6 0 none ∷
    line 1 2 2 1 1 0 0 1 6 0 none ∷
    line 1 2 2 1 1 0 0 1 6 0 none ∷
    line 1 0 2 1 1 1 0 2 2 0 none ∷
    line 1 0 6 1 0 0 0 0 0 16 none ∷
    line 1 0 2 2 1 6 0 1 6 0 none ∷
    line 1 6 2 1 1 5 0 1 4 0 none ∷
    line 1 0 2 2 1 6 0 1 4 0 none ∷
    line 1 5 2 1 1 3 0 1 4 0 none ∷
    line 1 3 2 1 1 4 0 1 4 0 none ∷
    line 1 4 2 3 1 7 0 1 4 0 none ∷
    line 1 7 2 3 1 3 0 1 4 0 none ∷
    line 1 1 1 0 0 0 0 1 1 0 none ∷
    line 1 3 2 3 1 5 0 1 4 0 none ∷
    line 1 5 2 3 1 6 0 1 4 0 none ∷
    line 1 6 5 4 0 0 0 0 0 0 none ∷
    line 1 6 6 4 0 0 0 4 0 28 none ∷
    line 1 6 2 4 255 2 0 1 4 0 none ∷
    line 1 6 2 4 1 1 0 1 4 0 none ∷
    line 1 5 1 0 0 0 0 4 2 0 none ∷
    line 1 5 4 5 0 0 0 0 0 0 none ∷
    line 1 1 2 4 1 2 258 1 4 0 none ∷
    line 1 3 2 1 1 1 0 1 5 0 none ∷
    line 0 5 4 1 0 0 0 0 0 0 none ∷
    line 1 1 1 0 0 0 0 5 6 0 none ∷
    []

abbrev pub random34 : List Line
random34 =
    line 3 3 1 0 0 0 0 1 1 0 none ∷
    line 3 3 2 1 3 0 0 1 1 0 none ∷
    line 3 3 6 1 0 0 0 0 0 165 none ∷
    line 3 6 1 0 0 0 0 1 7 0 none ∷
    line 3 6 6 1 0 0 0 0 0 242 none ∷
    line 3 3 2 1 3 1 0 1 1 0 none ∷
    line 3 3 5 1 0 0 0 0 0 0 none ∷
    line 3 3 5 1 0 0 0 0 0 0 none ∷
    line 3 3 5 1 0 0 0 0 0 0 none ∷
    line 3 3 5 1 0 0 0 0 0 0 none ∷
    line 3 3 5 1 0 0 0 0 0 0 none ∷
    line 3 3 3 1 0 0 0 0 0 0 none ∷
    line 3 3 6 1 0 0 0 0 0 126 none ∷
    line 3 3 6 1 0 0 0 0 0 150 none ∷
    line 3 6 2 1 3 4 0 1 7 0 none ∷
    line 4 0 5 32 3 2 31 2 8 0 none ∷
    line 3 6 3 2 0 0 0 0 0 0 none ∷
    line 3 3 2 1 3 0 3 1 7 0 none ∷
    line 3 6 1 0 0 0 0 1 3 0 none ∷
    line 3 6 1 0 0 0 0 1 3 0 none ∷
    line 3 6 1 0 0 0 0 1 3 0 none ∷
    line 3 6 1 0 0 0 0 1 3 0 none ∷
    line 3 6 1 0 0 0 0 1 3 0 none ∷
    line 3 6 1 0 0 0 0 1 3 0 none ∷
    line 3 6 1 0 0 0 0 1 3 0 none ∷
    line 3 6 1 0 0 0 0 1 3 0 none ∷
    line 3 2 1 0 0 0 0 1 1 0 none ∷
    []

-- the names, and a line for each
abbrev pub names : String
names = "depth pad program ticket first count rights"

abbrev pub Reports : List Line → List String → Type 0
Reports trace lines = report (leaves empty_dock trace).tables ≡ ended (names ∷ lines)

-- two claims, since the checker has so many steps for each
pub record WholeReports : Type 0 where
  pub of_empty : Reports empty ("0 256" ∷ [])
  pub of_m1 : Reports m1 ("0 0 0 1 0 4 7" ∷ "1 0 1 1 0 2 3" ∷ "1 1 0 1 2 2 1" ∷ "4 252" ∷ [])
  pub of_ring : Reports ring ("0 0 1 1 3 2 7" ∷ "1 1 0 1 3 2 7" ∷ "2 0 3 1 3 2 7" ∷ "3 0 1 3 3 1 5" ∷ "4 0 2 2 3 1 1" ∷ "1 0 2 1 4 1 3" ∷
      "0 2 5 1 0 3 7" ∷ "5 251" ∷ [])
  pub of_gone : Reports gone ("0 0 0 1 0 4 7" ∷ "1 3 0 1 1 1 1" ∷ "4 252" ∷ [])
  pub of_random3 : Reports random3 ("0 0 7 3 3 1 1" ∷ "0 0 7 4 94 18 4" ∷ "0 0 7 5 0 1 4" ∷ "1 2 2 5 0 1 4" ∷ "0 2 2 2 4 90 7" ∷
      "1 0 7 6 4 90 7" ∷ "0 2 2 3 1 2 1" ∷ "0 2 2 6 112 10 7" ∷ "122 134" ∷ [])
  pub of_random7 : Reports random7 ("0 0 5 3 8 4 7" ∷ "0 1 7 1 4 4 5" ∷ "0 2 3 1 0 3 7" ∷ "1 0 5 1 0 3 4" ∷ "2 2 5 2 0 3 4" ∷
      "3 2 3 3 0 3 4" ∷ "4 1 7 2 0 3 4" ∷ "2 2 5 4 0 3 4" ∷ "3 2 3 5 0 3 4" ∷ "4 2 5 7 0 3 4" ∷ "3 1 7 3 0 3 4" ∷ "2 2 3 6 0 3 4" ∷
      "0 2 5 1 3 1 2" ∷ "0 2 5 6 12 3 7" ∷ "15 241" ∷ [])

pub whole_reports : WholeReports
unfolding implies between first_index all some keep no_two all_at some_at map_at least within
    eq_name is_program same_program empty_tables has_number ticket_in lookup is_named entry_in reaches end_of
    apart inside outside is_free_run lowest_run has_run run_at smallest_below best_fit
    every_ticket_of every_ticket some_ticket_of some_ticket every_entry numbers_ok t1 span_ok t2 parent_ok child_ok t3 t4
    entry_names_ok grant_ok parent_entry_ok entry_ok roots_ok t5 recall_parent_ok is_child_of far_target_ok target_ok recall_ok t6 in_order
    is_free has_place with_ticket with_program give is_spare put_entry drop_ticket drop_in_program drop_in_pad drop_tickets drop_entry drop_entries
    accepted refused with_tables sheet_at put_sheets clear_sheets ◌when◌else◌ is_spent operation_of used_by field_ok fields_ok
    take_refusal take_tables after_take pass_refusal pass_tables after_pass recall_refusal lent_away recall_tables after_recall
    give_back_refusal give_back_tables after_give_back dock_refusal dock_check access_refusal after_read after_write
    own_refusal request_refusal lengths_ok refusal after_own drop_head outcome step emptied empty_dock
    served leaves tabulate joined bytes digits places decimal behind values_line
    flat_map names_of taken_grants is_recall_of is_listed loans_of rows_from rows report_names row_line taken_in count_below is_free_sheet sheets_free report ended
whole_reports = record {
  of_empty = refl;
  of_m1 = refl;
  of_ring = refl;
  of_gone = refl;
  of_random3 = refl;
  of_random7 = refl;
}

pub record MoreReports : Type 0 where
  pub of_random11 : Reports random11 ("0 0 1 1 0 1 7" ∷ "1 2 0 5 0 1 7" ∷ "2 0 1 9 0 1 7" ∷ "0 0 1 2 2 1 7" ∷ "0 0 1 7 5 1 7" ∷
      "0 0 1 8 6 1 7" ∷ "0 2 0 1 1 1 7" ∷ "1 0 1 3 1 1 7" ∷ "0 2 0 2 3 1 7" ∷ "0 2 0 4 4 1 7" ∷ "7 249" ∷ [])
  pub of_random15 : Reports random15 ("0 3 3 1 0 1 5" ∷ "1 3 5 2 0 1 5" ∷ "2 3 7 1 0 1 5" ∷ "2 3 3 5 0 1 1" ∷ "2 3 3 6 0 1 4" ∷
      "2 3 7 5 0 1 5" ∷ "3 3 3 8 0 1 5" ∷ "0 3 3 3 2 1 7" ∷ "0 3 3 7 6 1 7" ∷ "0 3 3 9 7 1 7" ∷ "0 3 5 1 1 1 6" ∷ "0 3 5 5 3 1 3" ∷
      "0 3 5 7 4 1 7" ∷ "0 3 7 4 5 1 7" ∷ "0 3 7 7 8 1 7" ∷ "9 247" ∷ [])
  pub of_random21 : Reports random21 ("0 1 1 3 2 1 1" ∷ "0 1 1 5 3 5 6" ∷ "6 250" ∷ [])
  pub of_random34 : Reports random34 ("0 3 2 1 9 1 1" ∷ "0 3 3 1 0 1 1" ∷ "0 3 6 1 1 1 7" ∷ "0 3 6 3 2 1 3" ∷ "0 3 6 4 3 1 3" ∷
      "0 3 6 5 4 1 3" ∷ "0 3 6 6 5 1 3" ∷ "0 3 6 7 6 1 3" ∷ "0 3 6 8 7 1 3" ∷ "0 3 6 9 8 1 3" ∷ "10 246" ∷ [])

pub more_reports : MoreReports
unfolding implies between first_index all some keep no_two all_at some_at map_at least within
    eq_name is_program same_program empty_tables has_number ticket_in lookup is_named entry_in reaches end_of
    apart inside outside is_free_run lowest_run has_run run_at smallest_below best_fit
    every_ticket_of every_ticket some_ticket_of some_ticket every_entry numbers_ok t1 span_ok t2 parent_ok child_ok t3 t4
    entry_names_ok grant_ok parent_entry_ok entry_ok roots_ok t5 recall_parent_ok is_child_of far_target_ok target_ok recall_ok t6 in_order
    is_free has_place with_ticket with_program give is_spare put_entry drop_ticket drop_in_program drop_in_pad drop_tickets drop_entry drop_entries
    accepted refused with_tables sheet_at put_sheets clear_sheets ◌when◌else◌ is_spent operation_of used_by field_ok fields_ok
    take_refusal take_tables after_take pass_refusal pass_tables after_pass recall_refusal lent_away recall_tables after_recall
    give_back_refusal give_back_tables after_give_back dock_refusal dock_check access_refusal after_read after_write
    own_refusal request_refusal lengths_ok refusal after_own drop_head outcome step emptied empty_dock
    served leaves tabulate joined bytes digits places decimal behind values_line
    flat_map names_of taken_grants is_recall_of is_listed loans_of rows_from rows report_names row_line taken_in count_below is_free_sheet sheets_free report ended
more_reports = record {
  of_random11 = refl;
  of_random15 = refl;
  of_random21 = refl;
  of_random34 = refl;
}
