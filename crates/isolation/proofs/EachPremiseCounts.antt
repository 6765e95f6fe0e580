-- Each condition of the claim counts: without it the claim is false, by a computed example. Left out in turn: no pass crosses the edge; a take
-- gets 11 in both or in neither; a write's bytes agree. (That the group's requests agree in their numbers needs no example.) And the claim
-- cannot be made stronger: where the sheets lie may differ.
-- The group is program 0 of pad 0; the others' part is played by program 1.
use Prim.Native.Nat.{ℕ}
use native.Mathlib.Omega.{arith}
use mathlib.Core.Path.{◌≡◌, refl, ap, sym, ◌∙◌}
use mathlib.Core.Logic.{◌↔◌}
use mathlib.Core.Bool.{true, ◌&&◌, xor}
use mathlib.Core.List.{List, [], ◌∷◌}
use lib.Dec.{eqb}
use lib.ListN.{get_or, replicate}
use Rattle.lists.specs.Tests.{implies, between}
use Rattle.lists.specs.Lists.{first_index, all, some, keep, no_two, all_at, some_at, least}
use Rattle.rights.specs.Rules.{within}
use Rattle.tables.specs.declared.Name.{Name}
use Rattle.tables.specs.Names.{name_of, eq_name, is_program, same_program, empty_tables}
use Rattle.tables.specs.Lookup.{has_number, ticket_in, lookup, is_named, entry_in}
use Rattle.tables.specs.Chains.{reaches, end_of}
use Rattle.tables.specs.Sheets.{apart, inside, outside, is_free_run, lowest_run, has_run}
use Rattle.tables.specs.Order.{every_ticket_of, every_ticket, some_ticket_of, some_ticket, every_entry, numbers_ok, t1, span_ok, t2, parent_ok, child_ok, t3, t4, entry_names_ok, grant_ok, parent_entry_ok, entry_ok, roots_ok, t5, recall_parent_ok, is_child_of, far_target_ok, target_ok, recall_ok, t6, in_order}
use Rattle.tables.specs.Change.{is_free, has_place, with_ticket, with_program, give, is_spare, put_entry}
use Rattle.best_fit.specs.BestFit.{run_at, smallest_below, best_fit}
use Rattle.machine.specs.declared.{Request.Request, Answer.Answer}
use Rattle.machine.specs.State.{answer_of, accepted, refused, with_tables, sheet_at, put_sheets, clear_sheets}
use Rattle.machine.specs.Refusal.{◌when◌else◌, is_spent}
use Rattle.machine.specs.Operation.{operation_of, used_by, field_ok, fields_ok}
use Rattle.machine.specs.Take.{take_refusal, take_tables, after_take}
use Rattle.machine.specs.Pass.{pass_refusal, pass_tables, after_pass}
use Rattle.machine.specs.Dock.{dock_refusal}
use Rattle.machine.specs.Access.{access_refusal, after_read, after_write}
use Rattle.machine.specs.Step.{own_refusal, request_refusal, lengths_ok, refusal, after_own, outcome, step}
use Rattle.machine.specs.Empty.{empty_dock}
use Rattle.machine.specs.Sequence.{Sent, enter, after, Group, from_group, crosses, none_crosses, Exchange, exchange, group_exchanges}
use Rattle.machine.specs.Isolation.{ForEvery, no_left, both, Given, Agree, owns}
use Rattle.machine.proofs.CaseLines.{request}
use Rattle.isolation.proofs.TwoSequences.{head_both, tail_both}

-- ---- the requests of the examples
abbrev sends : Request → ℕ → Sent
sends r fill = record { request = r; sheet = replicate 64 fill; whole = refl }

-- program 0 takes one sheet, writes it, reads it; program 1 takes one sheet or all, and lends its sheet to program 0
abbrev take : Sent
take = sends (request 0 0 1 0 0 0 0 1 7) 0

abbrev write : ℕ → Sent
write fill = sends (request 0 0 6 1 0 0 0 0 0) fill

abbrev read : Sent
read = sends (request 0 0 5 1 0 0 0 0 0) 0

abbrev others_take : ℕ → Sent
others_take count = sends (request 0 1 1 0 0 0 0 count 7) 0

abbrev others_pass : Sent
others_pass = sends (request 0 1 2 1 0 0 0 1 7) 0

program0 : Group
program0 pad program = eqb pad 0 && eqb program 0

abbrev Seen : List Sent → List Exchange
Seen is = group_exchanges program0 empty_dock is

-- what program 0 sees of a take: the number given, or a refusal
abbrev takes : ℕ → ℕ → Exchange
takes result ticket = record { sent = take; answer = answer_of result ticket 0; left = replicate 64 0 }

abbrev writes : ℕ → Exchange
writes fill = record { sent = write fill; answer = answer_of 0 0 0; left = replicate 64 fill }

abbrev reads : ℕ → Exchange
reads fill = record { sent = read; answer = answer_of 0 0 0; left = replicate 64 fill }

-- ---- the sequences, computed: what program 0 sees of each
record Computed : Type 0 where
  alone : Seen (take ∷ []) ≡ takes 0 1 ∷ []
  beside : Seen (others_take 1 ∷ take ∷ []) ≡ takes 0 1 ∷ []
  lent : Seen (others_take 1 ∷ others_pass ∷ take ∷ []) ≡ takes 0 2 ∷ []
  full : Seen (others_take 256 ∷ take ∷ []) ≡ takes 11 0 ∷ []
  beside_stays : none_crosses program0 (others_take 1 ∷ take ∷ []) ≡ true
  full_stays : none_crosses program0 (others_take 256 ∷ take ∷ []) ≡ true
  alone_stays : none_crosses program0 (take ∷ []) ≡ true
  written : (fill : ℕ) → Seen (take ∷ write fill ∷ read ∷ []) ≡ takes 0 1 ∷ writes fill ∷ reads fill ∷ []
  written_stays : (fill : ℕ) → none_crosses program0 (take ∷ write fill ∷ read ∷ []) ≡ true
  lies : (lookup (after empty_dock (take ∷ [])).tables (name_of 0 0 1)).first ≡ 0
  lies_beside : (lookup (after empty_dock (others_take 1 ∷ take ∷ [])).tables (name_of 0 0 1)).first ≡ 1

computed : Computed
unfolding implies between first_index all some keep no_two all_at some_at least within
    eq_name is_program same_program empty_tables has_number ticket_in lookup is_named entry_in reaches end_of
    apart inside outside is_free_run lowest_run has_run run_at smallest_below best_fit
    every_ticket_of every_ticket some_ticket_of some_ticket every_entry numbers_ok t1 span_ok t2 parent_ok child_ok t3 t4
    entry_names_ok grant_ok parent_entry_ok entry_ok roots_ok t5 recall_parent_ok is_child_of far_target_ok target_ok recall_ok t6 in_order
    is_free has_place with_ticket with_program give is_spare put_entry
    accepted refused with_tables sheet_at put_sheets clear_sheets ◌when◌else◌ is_spent operation_of used_by field_ok fields_ok
    take_refusal take_tables after_take pass_refusal pass_tables after_pass dock_refusal access_refusal after_read after_write
    own_refusal request_refusal lengths_ok refusal after_own outcome step empty_dock
    enter after from_group crosses none_crosses xor exchange group_exchanges program0
computed = record {
  alone = refl;
  beside = refl;
  lent = refl;
  full = refl;
  beside_stays = refl;
  full_stays = refl;
  alone_stays = refl;
  written = λ fill. refl;
  written_stays = λ fill. refl;
  lies = refl;
  lies_beside = refl;
}

-- two accepted requests get 11 in neither
no_eleven : (a b : Exchange) → a.answer.result ≡ 0 → b.answer.result ≡ 0 → (a.answer.result ≡ 11) ↔ (b.answer.result ≡ 11)
no_eleven a b p q =
    ((λ e. let z : ◌≡◌ {A = ℕ} 0 11 = sym p ∙ e in absurd (omega arith)), (λ e. let z : ◌≡◌ {A = ℕ} 0 11 = sym q ∙ e in absurd (omega arith)))

-- ---- without "no pass in either sequence crosses the edge": what another lends takes up a number
abbrev pub WithoutEdge : Type 0
WithoutEdge =
    (g : Group) (is js : List Sent)
    → ForEvery Given (group_exchanges g empty_dock is) (group_exchanges g empty_dock js)
    → ForEvery Agree (group_exchanges g empty_dock is) (group_exchanges g empty_dock js)

pub edge_counts : WithoutEdge → ⊥
edge_counts claim =
    let first : Given (takes 0 2) (takes 0 1) = record { numbers = refl; written = λ z. refl; eleven = λ z. no_eleven (takes 0 2) (takes 0 1) refl refl } in
    let given : ForEvery Given (takes 0 2 ∷ []) (takes 0 1 ∷ []) = both first no_left in
    let agree : ForEvery Agree (takes 0 2 ∷ []) (takes 0 1 ∷ [])
    = rw (computed.lent, computed.alone)
    at (claim program0 (others_take 1 ∷ others_pass ∷ take ∷ []) (take ∷ []) (rw (computed.lent, computed.alone) given)) in
    let z : ◌≡◌ {A = ℕ} 2 1 = ap (λ (a : Answer). a.ticket) (head_both agree).answers in
    omega arith

-- ---- without "a take gets 11 in both or in neither": another takes all
pub record GivenButEleven (a b : Exchange) : Type 0 where
  pub numbers : a.sent.request ≡ b.sent.request
  pub written : a.sent.request.op ≡ 6 → a.sent.sheet ≡ b.sent.sheet

abbrev pub WithoutEleven : Type 0
WithoutEleven =
    (g : Group) (is js : List Sent) → none_crosses g is ≡ true → none_crosses g js ≡ true
    → ForEvery GivenButEleven (group_exchanges g empty_dock is) (group_exchanges g empty_dock js)
    → ForEvery Agree (group_exchanges g empty_dock is) (group_exchanges g empty_dock js)

pub eleven_counts : WithoutEleven → ⊥
eleven_counts claim =
    let first : GivenButEleven (takes 11 0) (takes 0 1) = record { numbers = refl; written = λ z. refl } in
    let given : ForEvery GivenButEleven (takes 11 0 ∷ []) (takes 0 1 ∷ []) = both first no_left in
    let agree : ForEvery Agree (takes 11 0 ∷ []) (takes 0 1 ∷ [])
    = rw (computed.full, computed.alone)
    at (claim program0 (others_take 256 ∷ take ∷ []) (take ∷ []) computed.full_stays computed.alone_stays (rw (computed.full, computed.alone) given)) in
    let z : ◌≡◌ {A = ℕ} 11 0 = ap (λ (a : Answer). a.result) (head_both agree).answers in
    omega arith

-- ---- without "and a write's in those 64 bytes": what is read is what was written
pub record GivenButBytes (a b : Exchange) : Type 0 where
  pub numbers : a.sent.request ≡ b.sent.request
  pub eleven : a.sent.request.op ≡ 1 → (a.answer.result ≡ 11) ↔ (b.answer.result ≡ 11)

abbrev pub WithoutBytes : Type 0
WithoutBytes =
    (g : Group) (is js : List Sent) → none_crosses g is ≡ true → none_crosses g js ≡ true
    → ForEvery GivenButBytes (group_exchanges g empty_dock is) (group_exchanges g empty_dock js)
    → ForEvery Agree (group_exchanges g empty_dock is) (group_exchanges g empty_dock js)

pub bytes_count : WithoutBytes → ⊥
bytes_count claim =
    let same : (a b : Exchange) → a.sent.request ≡ b.sent.request → a.answer.result ≡ 0 → b.answer.result ≡ 0 → GivenButBytes a b
    = λ a b e p q. record { numbers = e; eleven = λ z. no_eleven a b p q } in
    let given : ForEvery GivenButBytes (takes 0 1 ∷ writes 9 ∷ reads 9 ∷ []) (takes 0 1 ∷ writes 8 ∷ reads 8 ∷ [])
    = both (same (takes 0 1) (takes 0 1) refl refl refl) (both (same (writes 9) (writes 8) refl refl refl) (both (same (reads 9) (reads 8) refl refl refl) no_left)) in
    let agree : ForEvery Agree (takes 0 1 ∷ writes 9 ∷ reads 9 ∷ []) (takes 0 1 ∷ writes 8 ∷ reads 8 ∷ [])
    = rw (computed.written 9, computed.written 8)
    at (claim program0 (take ∷ write 9 ∷ read ∷ []) (take ∷ write 8 ∷ read ∷ []) (computed.written_stays 9) (computed.written_stays 8)
    (rw (computed.written 9, computed.written 8) given)) in
    let left : replicate {A = ℕ} 64 9 ≡ replicate 64 8 = (head_both (tail_both (tail_both agree))).read refl refl in
    let z : ◌≡◌ {A = ℕ} 9 8 = ap (λ (l : List ℕ). get_or l 0 0) left in
    omega arith

-- ---- "where the sheets lie may differ"
abbrev pub SamePlaces : Type 0
SamePlaces =
    (g : Group) (is js : List Sent) → none_crosses g is ≡ true → none_crosses g js ≡ true
    → ForEvery Given (group_exchanges g empty_dock is) (group_exchanges g empty_dock js)
    → (n : Name) → owns g n ≡ true → (lookup (after empty_dock is).tables n).first ≡ (lookup (after empty_dock js).tables n).first

pub places_may_differ : SamePlaces → ⊥
unfolding program0
places_may_differ claim =
    let first : Given (takes 0 1) (takes 0 1) = record { numbers = refl; written = λ z. refl; eleven = λ z. no_eleven (takes 0 1) (takes 0 1) refl refl } in
    let given : ForEvery Given (takes 0 1 ∷ []) (takes 0 1 ∷ []) = both first no_left in
    let z : ◌≡◌ {A = ℕ} 0 1
    = sym computed.lies
    ∙ claim program0 (take ∷ []) (others_take 1 ∷ take ∷ []) computed.alone_stays computed.beside_stays (rw (computed.alone, computed.beside) given) (name_of 0 0 1) refl
    ∙ computed.lies_beside in
    omega arith
