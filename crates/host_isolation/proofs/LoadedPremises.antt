-- What the claims ask where a text is loaded counts: without it each is false, by a computed example. Left out in turn: the common store; that
-- no link joins the group to others; and of a dock that was emptied, that it loads nothing behind that.
-- In the text a program of pad 0 took four sheets and lent one to a program of pad 1, which reads it.
use Prim.Native.Nat.{ℕ}
use native.Mathlib.Omega.{arith}
use mathlib.Core.Path.{◌≡◌, refl, sym, ap, ◌∙◌}
use mathlib.Core.Bool.{true, false, ◌&&◌}
use mathlib.Core.List.{List, [], ◌∷◌}
use lib.Dec.{eqb}
use lib.ListN.{get_or, replicate, length-replicate}
use Rattle.lists.specs.Tests.{implies, between}
use Rattle.lists.specs.Lists.{first_index, all, some, keep, count_of, no_two, all_at, some_at, map_at, filled}
use Rattle.lists.specs.Parts.{tabulate}
use Rattle.rights.specs.Rules.{within}
use Rattle.tables.specs.declared.Tables.{Tables}
use Rattle.tables.specs.Names.{eq_name, is_program, same_program, empty_tables}
use Rattle.tables.specs.Lookup.{has_number, ticket_in, lookup, is_named, entry_in}
use Rattle.tables.specs.Chains.{reaches, end_of}
use Rattle.tables.specs.Sheets.{apart, inside}
use Rattle.tables.specs.Order.{every_ticket_of, every_ticket, some_ticket_of, some_ticket, every_entry, numbers_ok, t1, span_ok, t2, parent_ok, child_ok, t3, t4}
use Rattle.tables.specs.Order.{entry_names_ok, grant_ok, parent_entry_ok, entry_ok, roots_ok, t5, recall_parent_ok, is_child_of, far_target_ok, target_ok, recall_ok, t6, in_order}
use Rattle.tables.specs.Change.{drop_ticket, drop_in_program, drop_in_pad, drop_tickets, drop_entry, drop_entries}
use Rattle.machine.specs.State.{answer_of, accepted, refused, with_tables, sheet_at, State, Outcome}
use Rattle.machine.specs.Refusal.{◌when◌else◌, is_spent}
use Rattle.machine.specs.Operation.{operation_of, used_by, field_ok, fields_ok}
use Rattle.machine.specs.Recall.{recall_refusal, lent_away, recall_tables, after_recall}
use Rattle.machine.specs.Dock.{dock_refusal}
use Rattle.machine.specs.Access.{access_refusal, after_read}
use Rattle.machine.specs.Step.{own_refusal, request_refusal, lengths_ok, refusal, after_own, drop_head, outcome, step}
use Rattle.machine.specs.Empty.{empty_dock}
use Rattle.machine.specs.Numbers.{answer_numbers}
use Rattle.machine.specs.Sequence.{Sent, enter, Group, from_group, crosses}
use Rattle.machine.specs.Isolation.{ForEvery, no_left, both, Unlinked}
use Rattle.image.specs.Image.{kind_of}
use Rattle.text.specs.Bytes.{bytes, same_bytes}
use Rattle.text.specs.Reading.{in_front, cut, lines, fields, is_digit, number_from, is_number, no_leading_zero, is_value, has_values, values_of}
use Rattle.text.specs.Names.{named, behind_names}
use Rattle.saved.specs.Row.{column_names, is_last_row, is_ticket_row, is_entry_row, of_program, zero_unless, own_ok, other_ok, sheets_ok, row_ok, line_ok, key}
use Rattle.saved.specs.Save.{programs}
use Rattle.saved.specs.Load.{above, last_of_program, ticket_of_program, has_room, may_follow, all_follow, is_ended, all_programs, form_ok}
use Rattle.saved.specs.Load.{ticket_from, entry_from, program_from, tables_with, tables_from, last_in, tables_in, load_refusal, load}
use Rattle.saved.specs.Claims.{with_loaded}
use Rattle.saved.proofs.WholeTexts.{emptied, renewed, lines_of, ended, whole}
use Rattle.isolation.proofs.TwoSequences.{head_both}
use Rattle.host_isolation.specs.Calls.{Dock, WholeDock, Call, emptying, loading, left, left_by_all, Exchange, begins, exchanges}
use Rattle.host_isolation.specs.Calls.{none_crosses, of_group, Given, Agree, Isolated}
use Rattle.host_isolation.proofs.Traced.{seen_by, traced, traced_same}
use Rattle.host_isolation.proofs.Stands.{stands_whole, emptied_stands}
use Rattle.host_isolation.proofs.ForHosts.{begun_anew}
use Rattle.host_isolation.proofs.EverySequence.{calls_for, none_begins, sequence_made, loaded_made, any_dock, any_whole}
use Rattle.host_isolation.proofs.WrongHosts.{sent_for, read, serve_on, reads_given}

abbrev text : List ℕ
text = ended whole

abbrev beside : ℕ → State
beside fill = with_loaded text (replicate 16384 fill) []

abbrev recall : Sent
recall = sent_for 0 3 3 0 0 0 0 0

abbrev found : ℕ → Outcome
found fill = serve_on (beside fill) read

abbrev lost : Outcome
lost = serve_on (serve_on (beside 0) recall).state read

abbrev missed : Outcome
missed = serve_on empty_dock read

record Computed : Type 0 where
  accepted : (fill : ℕ) → (found fill).answer ≡ answer_of 0 0 0
  sheet : (fill : ℕ) → (found fill).state.sheet ≡ replicate 64 fill
  twelve : lost.answer ≡ answer_of 12 0 0
  four : missed.answer ≡ answer_of 4 0 0

computed : Computed
unfolding implies between first_index all some keep count_of no_two all_at some_at map_at filled tabulate within
    eq_name is_program same_program empty_tables has_number ticket_in lookup is_named entry_in reaches end_of apart inside
    every_ticket_of every_ticket some_ticket_of some_ticket every_entry numbers_ok t1 span_ok t2 parent_ok child_ok t3 t4
    entry_names_ok grant_ok parent_entry_ok entry_ok roots_ok t5 recall_parent_ok is_child_of far_target_ok target_ok recall_ok t6 in_order
    drop_ticket drop_in_program drop_in_pad drop_tickets drop_entry drop_entries
    accepted refused with_tables sheet_at ◌when◌else◌ is_spent operation_of used_by field_ok fields_ok recall_refusal lent_away recall_tables after_recall
    dock_refusal access_refusal after_read own_refusal request_refusal lengths_ok refusal after_own drop_head outcome step enter empty_dock
    kind_of bytes same_bytes in_front cut lines fields is_digit number_from is_number no_leading_zero is_value has_values values_of named behind_names
    column_names is_last_row is_ticket_row is_entry_row of_program zero_unless own_ok other_ok sheets_ok row_ok line_ok key programs
    above last_of_program ticket_of_program has_room may_follow all_follow is_ended all_programs form_ok
    ticket_from entry_from program_from tables_with tables_from last_in tables_in load_refusal load
    emptied renewed lines_of ended whole
computed = record { accepted = λ fill. refl; sheet = λ fill. refl; twelve = refl; four = refl }

-- ---- what a host sees
abbrev dock_with : ℕ → Dock
dock_with fill = record { image = any_dock.image; store = replicate 16384 fill }

is_whole : (fill : ℕ) → WholeDock (dock_with fill)
is_whole fill = record { image = any_whole.image; store = length-replicate {A = ℕ} 16384 fill }

-- of these the borrower's read alone is the group's
record OneRead (g : Group) (xs : List Exchange) (o : Outcome) : Type 0 where
  mine : of_group g xs ≡ seen_by read o ∷ []
  stay : none_crosses g xs ≡ true

would_agree : (g : Group) (xs ys : List Exchange) (o p : Outcome) → OneRead g xs o → OneRead g ys p → Isolated g xs ys → Agree (seen_by read o) (seen_by read p)
would_agree g xs ys o p x y isolated =
    let given : ForEvery Given (seen_by read o ∷ []) (seen_by read p ∷ []) = both (reads_given o p) no_left in
    let agree : ForEvery Agree (seen_by read o ∷ []) (seen_by read p ∷ []) =
    rw (x.mine, y.mine) at (isolated x.stay y.stay (rw (x.mine, y.mine) given)) in
    head_both agree

module _ (g : Group) (mine : g 1 0 ≡ true) where
  read_alone : (xs : List Exchange) (o : Outcome) → xs ≡ seen_by read o ∷ [] → OneRead g xs o
  unfolding of_group from_group is_program none_crosses all crosses
  read_alone xs o e = record { mine = ap (of_group g) e ∙ rw mine; stay = ap (none_crosses g) e }

  recalled_before : g 0 0 ≡ false → (xs : List Exchange) (r o : Outcome) → xs ≡ seen_by recall r ∷ seen_by read o ∷ [] → OneRead g xs o
  unfolding of_group from_group is_program none_crosses all crosses
  recalled_before other xs r o e = record { mine = ap (of_group g) e ∙ rw (other, mine); stay = ap (none_crosses g) e }

read_seen : (fill : ℕ) → exchanges (dock_with fill) (loading text ∷ calls_for (read ∷ [])) ≡ seen_by read (found fill) ∷ []
unfolding traced
read_seen fill = loaded_made (dock_with fill) (is_whole fill) text [] (read ∷ [])

-- ---- without "one common store": the bytes that are read differ
abbrev pub WithoutStore : Type 0
WithoutStore =
    (g : Group) (text : List ℕ) (d e : Dock) (cs ds : List Call) → Unlinked g (load text).tables
    → some begins cs ≡ false → some begins ds ≡ false → Isolated g (exchanges d (loading text ∷ cs)) (exchanges e (loading text ∷ ds))

-- the group of all has no link to others
everyone : Group
everyone pad program = true

all_unlinked : (t : Tables) → Unlinked everyone t
unfolding everyone
all_unlinked t = record { parent = λ n h. refl; target = λ n h. refl; entry = λ n l z. refl }

pub store_counts : WithoutStore → ⊥
unfolding everyone answer_numbers
store_counts claim =
    let none = none_begins (read ∷ []) in
    let agree = would_agree everyone (exchanges (dock_with 0) (loading text ∷ calls_for (read ∷ []))) (exchanges (dock_with 1) (loading text ∷ calls_for (read ∷ [])))
    (found 0) (found 1) (read_alone everyone refl _ (found 0) (read_seen 0)) (read_alone everyone refl _ (found 1) (read_seen 1))
    (claim everyone text (dock_with 0) (dock_with 1) (calls_for (read ∷ [])) (calls_for (read ∷ [])) (all_unlinked (load text).tables) none none) in
    let same : (found 0).state.sheet ≡ (found 1).state.sheet = agree.read refl (λ i. (computed.accepted 0 i).result) in
    let z : ◌≡◌ {A = ℕ} 0 1 = ap (λ (l : List ℕ). get_or l 0 0) (sym (computed.sheet 0) ∙ same ∙ computed.sheet 1) in
    omega arith

-- ---- without "no parent, recall or entry link joins the group to others": a loan to the group is recalled
abbrev pub WithoutUnlinked : Type 0
WithoutUnlinked =
    (g : Group) (text : List ℕ) (d e : Dock) (cs ds : List Call) → d.store ≡ e.store
    → some begins cs ≡ false → some begins ds ≡ false → Isolated g (exchanges d (loading text ∷ cs)) (exchanges e (loading text ∷ ds))

borrower : Group
borrower pad program = eqb pad 1 && eqb program 0

recall_seen : exchanges (dock_with 0) (loading text ∷ calls_for (recall ∷ read ∷ [])) ≡ seen_by recall (serve_on (beside 0) recall) ∷ seen_by read lost ∷ []
unfolding traced
recall_seen = loaded_made (dock_with 0) (is_whole 0) text [] (recall ∷ read ∷ [])

pub links_count : WithoutUnlinked → ⊥
unfolding borrower answer_numbers
links_count claim =
    let agree = would_agree borrower (exchanges (dock_with 0) (loading text ∷ calls_for (recall ∷ read ∷ [])))
    (exchanges (dock_with 0) (loading text ∷ calls_for (read ∷ []))) lost (found 0)
    (recalled_before borrower refl refl _ (serve_on (beside 0) recall) lost recall_seen) (read_alone borrower refl _ (found 0) (read_seen 0))
    (claim borrower text (dock_with 0) (dock_with 0) (calls_for (recall ∷ read ∷ [])) (calls_for (read ∷ [])) refl
    (none_begins (recall ∷ read ∷ [])) (none_begins (read ∷ []))) in
    let same = ap (λ (l : List ℕ). get_or l 0 0) agree.answers in
    let z : ◌≡◌ {A = ℕ} 12 0 = sym (λ i. (computed.twelve i).result) ∙ same ∙ λ i. (computed.accepted 0 i).result in
    omega arith

-- ---- a load behind an emptying: it brings tickets that the other host has not
abbrev pub WithoutLoads : Type 0
WithoutLoads =
    (g : Group) (d e : Dock) (cs ds : List Call) → Isolated g (exchanges d (emptying ∷ cs)) (exchanges e (emptying ∷ ds))

loaded_behind : exchanges any_dock (emptying ∷ loading text ∷ calls_for (read ∷ [])) ≡ seen_by read (found 0) ∷ []
unfolding left_by_all traced empty_dock
loaded_behind =
    let d = left any_dock emptying in
    let h = emptied_stands any_dock any_whole in
    begun_anew any_dock (emptying ∷ []) (loading text) (calls_for (read ∷ [])) refl
    ∙ loaded_made d (stands_whole d empty_dock h) text [] (read ∷ [])
    ∙ traced_same (with_loaded text d.store []) (beside 0) refl h.store (read ∷ [])

none_found : exchanges any_dock (emptying ∷ calls_for (read ∷ [])) ≡ seen_by read missed ∷ []
unfolding traced
none_found = sequence_made any_dock any_whole (read ∷ [])

pub loads_count : WithoutLoads → ⊥
unfolding everyone answer_numbers
loads_count claim =
    let agree = would_agree everyone (exchanges any_dock (emptying ∷ loading text ∷ calls_for (read ∷ []))) (exchanges any_dock (emptying ∷ calls_for (read ∷ [])))
    (found 0) missed (read_alone everyone refl _ (found 0) loaded_behind) (read_alone everyone refl _ missed none_found)
    (claim everyone any_dock any_dock (loading text ∷ calls_for (read ∷ [])) (calls_for (read ∷ []))) in
    let same = ap (λ (l : List ℕ). get_or l 0 0) agree.answers in
    let z : ◌≡◌ {A = ℕ} 0 4 = sym (λ i. (computed.accepted 0 i).result) ∙ same ∙ λ i. (computed.four i).result in
    omega arith
