-- Three wrong hosts of which the claim is false, by computed examples:
-- one that counts requests across an emptying: a take gives number 1 again, where another host's second take gives 2;
-- one that lends two copies of its dock in turn: two takes give 1 and 1, but 1 and 2 with an order test between them;
-- one that puts back the bytes that a refused request met: on 12 a ticket goes, and so the same read again is refused with 12 where it put
-- them back, with 4 where both reads were one batch.
use Prim.Native.Nat.{ℕ}
use native.Mathlib.Omega.{arith}
use mathlib.Core.Path.{◌≡◌, refl, sym, ap, ◌∙◌}
use mathlib.Core.Bool.{true, false, xor, cond}
use mathlib.Core.List.{List, [], ◌∷◌, ◌++◌}
use lib.Dec.{eqb}
use lib.ListN.{get_or, replicate}
use borrow.Author.Tests.{eq-eqb, ne_eqb}
use Rattle.lists.specs.Tests.{implies, between}
use Rattle.lists.specs.Lists.{first_index, all, some, keep, no_two, all_at, some_at, map_at, least}
use Rattle.lists.specs.Parts.{joined}
use Rattle.lists.proofs.Tests as Tests
use Rattle.lists.proofs.Tests.{Case, fail, case}
use Rattle.rights.specs.Rules.{within}
use Rattle.tables.specs.Names.{eq_name, is_program, same_program, empty_tables}
use Rattle.tables.specs.Lookup.{has_number, ticket_in, lookup, is_named, entry_in}
use Rattle.tables.specs.Chains.{reaches, end_of}
use Rattle.tables.specs.Sheets.{apart, inside, outside, is_free_run, lowest_run, has_run}
use Rattle.tables.specs.Order.{every_ticket_of, every_ticket, some_ticket_of, some_ticket, every_entry, numbers_ok, t1, span_ok, t2, parent_ok, child_ok, t3, t4, entry_names_ok, grant_ok, parent_entry_ok, entry_ok, roots_ok, t5, recall_parent_ok, is_child_of, far_target_ok, target_ok, recall_ok, t6, in_order}
use Rattle.tables.specs.Change.{is_free, has_place, with_ticket, with_program, give, is_spare, put_entry, drop_ticket, drop_in_program, drop_in_pad, drop_tickets, drop_entry, drop_entries}
use Rattle.best_fit.specs.BestFit.{run_at, smallest_below, best_fit}
use Rattle.machine.specs.State.{answer_of, accepted, refused, with_tables, sheet_at, put_sheets, clear_sheets, State, Outcome}
use Rattle.machine.specs.Refusal.{◌when◌else◌, is_spent}
use Rattle.machine.specs.Operation.{operation_of, used_by, field_ok, fields_ok}
use Rattle.machine.specs.Take.{take_refusal, take_tables, after_take}
use Rattle.machine.specs.Pass.{pass_refusal, pass_tables, after_pass}
use Rattle.machine.specs.Recall.{recall_refusal, lent_away, recall_tables, after_recall}
use Rattle.machine.specs.Dock.{dock_refusal}
use Rattle.machine.specs.Access.{access_refusal, after_read, after_write}
use Rattle.machine.specs.Step.{own_refusal, request_refusal, lengths_ok, refusal, after_own, drop_head, outcome, step}
use Rattle.machine.specs.Empty.{empty_dock}
use Rattle.machine.specs.Numbers.{answer_numbers}
use Rattle.machine.specs.Sequence.{Sent, enter, Group, from_group, crosses}
use Rattle.machine.specs.Isolation.{ForEvery, no_left, both}
use Rattle.machine.proofs.CaseLines.{request}
use Rattle.isolation.proofs.TwoSequences.{head_both, tail_both}
use Rattle.host_isolation.specs.Calls.{Dock, Call, emptying, serving, testing, result, left, Exchange, made, loads, begins, exchanges}
use Rattle.host_isolation.specs.Calls.{none_crosses, of_group, Given, Agree, Isolated}
use Rattle.host_isolation.proofs.Traced.{seen_by, traced}
use Rattle.host_isolation.proofs.Stands.{Stands, stands_whole, emptied_stands}
use Rattle.host_isolation.proofs.OneBatch.{filled, sent_at, batch_same}
use Rattle.host_isolation.proofs.ForHosts.{isolated_for_hosts}
use Rattle.host_isolation.proofs.StaysUsable.{serve_0}
use Rattle.host_isolation.proofs.EverySequence.{numbers_of, call_for, one_made, one_result, one_left, any_dock, any_whole}

-- ---- a kind of host: what it takes for its requests, on a dock that it has emptied
abbrev pub Host : Type 0
Host = Dock → List Call → List Exchange

abbrev pub IsolatedFor : Host → Type 0
IsolatedFor seen =
    (g : Group) (d e : Dock) (cs ds : List Call) → some loads cs ≡ false → some loads ds ≡ false
    → Isolated g (seen (left d emptying) cs) (seen (left e emptying) ds)

-- the right one
from_emptied : (d : Dock) (cs : List Call) → exchanges d (emptying ∷ cs) ≡ exchanges (left d emptying) cs
unfolding exchanges made
from_emptied d cs = go (case (some begins cs))
  where
    go : Case (some begins cs) → exchanges d (emptying ∷ cs) ≡ exchanges (left d emptying) cs
    go (Tests.pass e) = rw e
    go (fail e) = rw e

pub right_host : IsolatedFor exchanges
right_host g d e cs ds k l = rw (sym (from_emptied d cs), sym (from_emptied e ds)) (isolated_for_hosts g d e cs ds k l)

-- counts across emptyings
unfoldable pub across : Host
across d [] = []
across d (c ∷ cs) = made d c ++ across (left d c) cs

-- lends two copies in turn
unfoldable pub in_turn : Dock → Host
in_turn e d [] = []
in_turn e d (c ∷ cs) = made d c ++ in_turn (left d c) e cs

abbrev pub two_copies : Host
two_copies d = in_turn d d

-- puts the bytes back unless the result is 0
unfoldable pub put_back : Host
put_back d [] = []
put_back d (c ∷ cs) = made d c ++ put_back (cond (eqb (result d c) 0) (left d c) d) cs

-- ---- the example: a sheet is taken, lent to another pad and recalled, and then read there
abbrev pub sent_for : ℕ → ℕ → ℕ → ℕ → ℕ → ℕ → ℕ → ℕ → Sent
sent_for pad op ticket topad toprogram first count rights =
    record { request = request pad 0 op ticket topad toprogram first count rights; sheet = replicate 64 0; whole = refl }

abbrev take : Sent
take = sent_for 0 1 0 0 0 0 1 7

abbrev pass : Sent
pass = sent_for 0 2 1 1 0 0 1 7

abbrev recall : Sent
recall = sent_for 0 3 2 0 0 0 0 0

abbrev pub read : Sent
read = sent_for 1 5 1 0 0 0 0 0

abbrev pub serve_on : State → Sent → Outcome
serve_on s i = step (enter s i) i.request

abbrev one : Outcome
one = serve_on empty_dock take

abbrev two : Outcome
two = serve_on one.state take

abbrev passed : Outcome
passed = serve_on one.state pass

abbrev recalled : Outcome
recalled = serve_on passed.state recall

abbrev lost : Outcome
lost = serve_on recalled.state read

abbrev gone : Outcome
gone = serve_on lost.state read

-- the group of all
everyone : Group
everyone pad program = true

record Computed : Type 0 where
  first : one.answer ≡ answer_of 0 1 0
  second : two.answer ≡ answer_of 0 2 0
  third : passed.answer ≡ answer_of 0 2 1
  fourth : recalled.answer ≡ answer_of 0 0 0
  twelve : lost.answer ≡ answer_of 12 0 0
  four : gone.answer ≡ answer_of 4 0 0

computed : Computed
unfolding implies between first_index all some keep no_two all_at some_at map_at least within
    eq_name is_program same_program empty_tables has_number ticket_in lookup is_named entry_in reaches end_of
    apart inside outside is_free_run lowest_run has_run run_at smallest_below best_fit
    every_ticket_of every_ticket some_ticket_of some_ticket every_entry numbers_ok t1 span_ok t2 parent_ok child_ok t3 t4
    entry_names_ok grant_ok parent_entry_ok entry_ok roots_ok t5 recall_parent_ok is_child_of far_target_ok target_ok recall_ok t6 in_order
    is_free has_place with_ticket with_program give is_spare put_entry drop_ticket drop_in_program drop_in_pad drop_tickets drop_entry drop_entries
    accepted refused with_tables sheet_at put_sheets clear_sheets ◌when◌else◌ is_spent operation_of used_by field_ok fields_ok
    take_refusal take_tables after_take pass_refusal pass_tables after_pass recall_refusal lent_away recall_tables after_recall
    dock_refusal access_refusal after_read after_write own_refusal request_refusal lengths_ok refusal after_own drop_head outcome step empty_dock enter
computed = record { first = refl; second = refl; third = refl; fourth = refl; twelve = refl; four = refl }

-- ---- calls one by one
abbrev emptied_dock : Dock
emptied_dock = left any_dock emptying

emptied_first : Stands emptied_dock empty_dock
emptied_first = emptied_stands any_dock any_whole

taken_once : Stands (left emptied_dock (call_for take)) one.state
taken_once = one_left emptied_dock empty_dock emptied_first take

-- ---- what such a host would have to see
same_given : (x : Exchange) → Given x x
same_given x = record { numbers = refl; written = λ z. refl; eleven = λ z. ((λ e. e), (λ e. e)) }

-- requests of the group of all, none of which crosses its edge
record Everyones (xs : List Exchange) : Type 0 where
  mine : of_group everyone xs ≡ xs
  stay : none_crosses everyone xs ≡ true

would_agree : (seen : Host) (cs ds : List Call) (xs ys : List Exchange) → seen emptied_dock cs ≡ xs → seen emptied_dock ds ≡ ys
    → some loads cs ≡ false → some loads ds ≡ false → Everyones xs → Everyones ys → ForEvery Given xs ys → IsolatedFor seen → ForEvery Agree xs ys
would_agree seen cs ds xs ys p q k l x y given claim =
    let ours : of_group everyone (seen emptied_dock cs) ≡ xs = ap (of_group everyone) p ∙ x.mine in
    let theirs : of_group everyone (seen emptied_dock ds) ≡ ys = ap (of_group everyone) q ∙ y.mine in
    rw (ours, theirs)
    at (claim everyone any_dock any_dock cs ds k l (ap (none_crosses everyone) p ∙ x.stay) (ap (none_crosses everyone) q ∙ y.stay)
    (rw (ours, theirs) given))

-- ---- two takes: numbers 1 and 1, or 1 and 2
abbrev two_takes : Outcome → List Exchange
two_takes o = seen_by take one ∷ seen_by take o ∷ []

takes_everyones : (o : Outcome) → Everyones (two_takes o)
unfolding of_group from_group is_program everyone none_crosses all crosses
takes_everyones o = record { mine = refl; stay = refl }

-- a take that is accepted does not get 11
takes_given : (o p : Outcome) → o.answer.result ≡ 0 → p.answer.result ≡ 0 → Given (seen_by take o) (seen_by take p)
unfolding answer_numbers
takes_given o p x y = record {
  numbers = refl;
  written = λ z. refl;
  eleven = λ z.
      ((λ e. let w : ◌≡◌ {A = ℕ} 0 11 = sym x ∙ e in absurd (omega arith)), (λ e. let w : ◌≡◌ {A = ℕ} 0 11 = sym y ∙ e in absurd (omega arith)));
}

takes_differ : (seen : Host) (cs ds : List Call) → seen emptied_dock cs ≡ two_takes one → seen emptied_dock ds ≡ two_takes two
    → some loads cs ≡ false → some loads ds ≡ false → IsolatedFor seen → ⊥
unfolding answer_numbers
takes_differ seen cs ds p q k l claim =
    let given : ForEvery Given (two_takes one) (two_takes two) =
    both (same_given (seen_by take one)) (both (takes_given one two (λ i. (computed.first i).result) (λ i. (computed.second i).result)) no_left) in
    let agree = would_agree seen cs ds (two_takes one) (two_takes two) p q k l (takes_everyones one) (takes_everyones two) given claim in
    let same : answer_numbers one.answer ≡ answer_numbers two.answer = (head_both (tail_both agree)).answers in
    let z : ◌≡◌ {A = ℕ} 1 2 = sym (λ i. (computed.first i).ticket) ∙ ap (λ (l : List ℕ). get_or l 1 0) same ∙ λ i. (computed.second i).ticket in
    omega arith

take_made : made emptied_dock (call_for take) ≡ seen_by take one ∷ []
take_made = one_made emptied_dock empty_dock emptied_first take

taken_again : made (left emptied_dock (call_for take)) (call_for take) ≡ seen_by take two ∷ []
taken_again = one_made (left emptied_dock (call_for take)) one.state taken_once take

-- ---- counted across an emptying
emptied_again : made (left (left emptied_dock (call_for take)) emptying) (call_for take) ≡ seen_by take one ∷ []
emptied_again =
    let d = left emptied_dock (call_for take) in
    one_made (left d emptying) empty_dock (emptied_stands d (stands_whole d one.state taken_once)) take

pub emptying_counts : IsolatedFor across → ⊥
unfolding across made some
emptying_counts =
    takes_differ across (call_for take ∷ emptying ∷ call_for take ∷ []) (call_for take ∷ call_for take ∷ []) (λ i. take_made i ++ (emptied_again i ++ []))
    (λ i. take_made i ++ (taken_again i ++ [])) refl refl

-- ---- two copies in turn
pub copies_count : IsolatedFor two_copies → ⊥
unfolding in_turn made some
copies_count =
    takes_differ two_copies (call_for take ∷ call_for take ∷ []) (call_for take ∷ testing ∷ call_for take ∷ []) (λ i. take_made i ++ (take_made i ++ []))
    (λ i. take_made i ++ (taken_again i ++ [])) refl refl

-- ---- put back
module _ (d : Dock) (s : State) (h : Stands d s) (i : Sent) (rest : List Call) where
  next_kept : (serve_on s i).answer.result ≡ 0 → put_back d (call_for i ∷ rest) ≡ seen_by i (serve_on s i) ∷ put_back (left d (call_for i)) rest
  unfolding put_back
  next_kept e =
      rw (eq-eqb (result d (call_for i)) 0 (one_result d s h i ∙ e))
      (ap (λ (l : List Exchange). l ++ put_back (left d (call_for i)) rest) (one_made d s h i))

  next_back : ((serve_on s i).answer.result ≡ 0 → ⊥) → put_back d (call_for i ∷ rest) ≡ seen_by i (serve_on s i) ∷ put_back d rest
  unfolding put_back
  next_back e =
      rw (ne_eqb (result d (call_for i)) 0 (λ z. e (sym (one_result d s h i) ∙ z)))
      (ap (λ (l : List Exchange). l ++ put_back d rest) (one_made d s h i))

abbrev taken_dock : Dock
taken_dock = left emptied_dock (call_for take)

abbrev passed_dock : Dock
passed_dock = left taken_dock (call_for pass)

passed_on : Stands passed_dock passed.state
passed_on = one_left taken_dock one.state taken_once pass

abbrev recalled_dock : Dock
recalled_dock = left passed_dock (call_for recall)

recalled_from : Stands recalled_dock recalled.state
recalled_from = one_left passed_dock passed.state passed_on recall

abbrev lent_and_recalled : List Call → List Call
lent_and_recalled cs = call_for take ∷ call_for pass ∷ call_for recall ∷ cs

abbrev seen_then : List Exchange → List Exchange
seen_then xs = seen_by take one ∷ seen_by pass passed ∷ seen_by recall recalled ∷ xs

all_kept : (cs : List Call) → put_back emptied_dock (lent_and_recalled cs) ≡ seen_then (put_back recalled_dock cs)
all_kept cs =
    next_kept emptied_dock empty_dock emptied_first take (call_for pass ∷ call_for recall ∷ cs) (λ i. (computed.first i).result)
    ∙ ap (λ (l : List Exchange). seen_by take one ∷ l)
    (next_kept taken_dock one.state taken_once pass (call_for recall ∷ cs) (λ i. (computed.third i).result)
    ∙ ap (λ (l : List Exchange). seen_by pass passed ∷ l)
    (next_kept passed_dock passed.state passed_on recall cs (λ i. (computed.fourth i).result)))

not_0 : lost.answer.result ≡ 0 → ⊥
not_0 z = let w : ◌≡◌ {A = ℕ} 12 0 = sym (λ i. (computed.twelve i).result) ∙ z in omega arith

-- by steps the read is refused with 12 twice
one_by_one : put_back recalled_dock (call_for read ∷ call_for read ∷ []) ≡ seen_by read lost ∷ seen_by read lost ∷ []
unfolding put_back
one_by_one =
    next_back recalled_dock recalled.state recalled_from read (call_for read ∷ []) not_0
    ∙ ap (λ (l : List Exchange). seen_by read lost ∷ l) (next_back recalled_dock recalled.state recalled_from read [] not_0)

-- in a batch with 12 and then with 4
abbrev both_reads : Call
both_reads = serving (replicate 128 0) (numbers_of read.request ++ numbers_of read.request) (replicate 6 0)

as_batch : put_back recalled_dock (both_reads ∷ []) ≡ seen_by read lost ∷ seen_by read gone ∷ []
unfolding put_back traced joined sent_at filled sheet_at numbers_of enter
as_batch =
    let requests = numbers_of read.request ++ numbers_of read.request in
    let none = serve_0 recalled_dock recalled.state recalled_from 2 (replicate 128 0) requests (replicate 6 0) refl refl refl in
    ap (λ (l : List Exchange). l ++ [])
    (batch_same recalled_dock (replicate 128 0) requests (replicate 6 0) recalled.state recalled_from (eq-eqb _ 0 none))

-- ---- two reads: 12 and 12, or 12 and 4
abbrev two_reads : Outcome → List Exchange
two_reads o = seen_then (seen_by read lost ∷ seen_by read o ∷ [])

reads_everyones : (o : Outcome) → Everyones (two_reads o)
unfolding of_group from_group is_program everyone none_crosses all crosses xor
reads_everyones o = record { mine = refl; stay = refl }

pub reads_given : (o p : Outcome) → Given (seen_by read o) (seen_by read p)
reads_given o p = record { numbers = refl; written = λ z. refl; eleven = λ z. let w : ◌≡◌ {A = ℕ} 5 1 = z in absurd (omega arith) }

pub put_back_counts : IsolatedFor put_back → ⊥
unfolding answer_numbers some
put_back_counts claim =
    let given : ForEvery Given (two_reads lost) (two_reads gone) =
    both (same_given (seen_by take one)) (both (same_given (seen_by pass passed)) (both (same_given (seen_by recall recalled))
    (both (same_given (seen_by read lost)) (both (reads_given lost gone) no_left)))) in
    let agree : ForEvery Agree (two_reads lost) (two_reads gone) =
    would_agree put_back (lent_and_recalled (call_for read ∷ call_for read ∷ [])) (lent_and_recalled (both_reads ∷ [])) (two_reads lost) (two_reads gone)
    (all_kept (call_for read ∷ call_for read ∷ []) ∙ ap seen_then one_by_one) (all_kept (both_reads ∷ []) ∙ ap seen_then as_batch)
    refl refl (reads_everyones lost) (reads_everyones gone) given claim in
    let same : answer_numbers lost.answer ≡ answer_numbers gone.answer = (head_both (tail_both (tail_both (tail_both (tail_both agree))))).answers in
    let z : ◌≡◌ {A = ℕ} 12 4 = sym (λ i. (computed.twelve i).result) ∙ ap (λ (l : List ℕ). get_or l 0 0) same ∙ λ i. (computed.four i).result in
    omega arith
