-- 31 links are reached: computed from the definitions.
use mathlib.Core.Path.{◌≡◌, refl, ap, ◌∙◌}
use mathlib.Core.Bool.{true}
use mathlib.Core.List.{List, [], ◌∷◌, map}
use Rattle.lists.specs.Tests.{implies, between}
use Rattle.lists.specs.Lists.{first_index, all, some, keep, no_two, all_at, some_at, map_at, least}
use Rattle.lists.specs.Parts.{tabulate}
use Rattle.rights.specs.Rules.{within}
use Rattle.tables.specs.declared.Name.{Name}
use Rattle.tables.specs.Kinds.{is_grant}
use Rattle.tables.specs.Names.{name_of, eq_name, is_program, same_program, empty_tables}
use Rattle.tables.specs.Lookup.{has_number, ticket_in, lookup, is_named, entry_in}
use Rattle.tables.specs.Chains.{reaches, end_of, links_of, chain_links}
use Rattle.tables.specs.Sheets.{apart, inside, outside, is_free_run, lowest_run, has_run}
use Rattle.tables.specs.Change.{is_free, has_place, with_ticket, with_program, give, is_spare, put_entry}
use Rattle.best_fit.specs.BestFit.{run_at, smallest_below, best_fit}
use Rattle.machine.specs.State.{State, Outcome, accepted, refused, with_tables, sheet_at, put_sheets, clear_sheets}
use Rattle.machine.specs.Refusal.{◌when◌else◌, is_spent}
use Rattle.machine.specs.Operation.{operation_of, used_by, field_ok, fields_ok}
use Rattle.machine.specs.Take.{take_refusal, take_tables, after_take}
use Rattle.machine.specs.Pass.{pass_refusal, pass_tables, after_pass}
use Rattle.machine.specs.Step.{own_refusal, request_refusal, after_own, outcome, serve}
use Rattle.machine.specs.Empty.{empty_dock}
use Rattle.machine.specs.Sequence.{Sent, enter, after}
use Rattle.preservation.proofs.OrderPassesTest.{order_passes_test}
use Rattle.preservation.specs.InOrder.{DockOk}
use Rattle.preservation.proofs.StepKeepsOrder.{step_is_serve, serve_keeps_dock, sequence_keeps, empty_dock_ok}
use Rattle.links.specs.Links.{most_links, MostReached}
use Rattle.links.proofs.Depths.{sent, lent_on}

-- ---- the tables that 32 requests leave of an emptied dock; they are in order, as after every sequence
-- a sequence without the order test, which always passes: what is computed
served_all : State → List Sent → State
served_all s [] = s
served_all s (i ∷ is) = served_all (serve (enter s i) i.request).state is

after_served : (s : State) → DockOk s → (is : List Sent) → after s is ≡ served_all s is
unfolding after served_all enter
after_served s ok [] = refl
after_served s ok (i ∷ is) =
    let entered : DockOk (enter s i) = record { tables = ok.tables; store = ok.store } in
    ap (λ (o : Outcome). after o.state is) (step_is_serve (enter s i) i.request ok.tables ok.store i.whole)
    ∙ after_served (serve (enter s i) i.request).state (serve_keeps_dock (enter s i) i.request entered i.whole) is

abbrev last : Name
last = name_of 0 7 7

record Computed : Type 0 where
  grant : is_grant (lookup (served_all empty_dock (map sent lent_on)).tables last).kind ≡ true
  links : chain_links (served_all empty_dock (map sent lent_on)).tables last ≡ most_links

computed : Computed
unfolding implies between first_index all some keep no_two all_at some_at map_at least within
    eq_name is_program same_program empty_tables has_number ticket_in lookup is_named entry_in reaches end_of links_of
    apart inside outside is_free_run lowest_run has_run run_at smallest_below best_fit
    is_free has_place with_ticket with_program give is_spare put_entry
    accepted refused with_tables sheet_at put_sheets clear_sheets ◌when◌else◌ is_spent operation_of used_by field_ok fields_ok
    take_refusal take_tables after_take pass_refusal pass_tables after_pass own_refusal request_refusal after_own outcome serve empty_dock
    enter served_all tabulate
computed = record { grant = refl; links = refl }

pub most_reached : MostReached
unfolding tabulate
most_reached = record {
  requests = map sent lent_on;
  many = refl;
  order = order_passes_test _ (sequence_keeps empty_dock empty_dock_ok (map sent lent_on)).tables;
  ticket = last;
  grant = ap (λ (s : State). is_grant (lookup s.tables last).kind) left ∙ computed.grant;
  links = ap (λ (s : State). chain_links s.tables last) left ∙ computed.links;
}
  where
    left : after empty_dock (map sent lent_on) ≡ served_all empty_dock (map sent lent_on)
    left = after_served empty_dock empty_dock_ok (map sent lent_on)
