-- A dock stays usable, whatever was called: 14 never comes, and a call whose own buffers have their lengths is served.
use Prim.Native.Nat.{ℕ, ◌+◌, ◌*◌, ◌/◌, ◌≤◌, ◌<◌}
use native.Mathlib.Omega.{arith}
use mathlib.Core.Path.{◌≡◌, refl, sym, ap, ◌∙◌}
use mathlib.Core.Bool.{Bool, true, false, not, ◌&&◌}
use mathlib.Core.List.{List, [], ◌∷◌}
use lib.Dec.{leb, eqb}
use lib.ListN.{length, get_or}
use borrow.Author.Tests.{eq-eqb, le-leb}
use Rattle.lists.specs.Lists.{all}
use Rattle.lists.proofs.Tests.{Case, pass, fail, case, contradiction, and_intro}
use Rattle.tables.specs.Names.{name_of}
use Rattle.machine.specs.State.{State}
use Rattle.machine.specs.Refusal.{◌when◌else◌}
use Rattle.machine.specs.Dock.{dock_check}
use Rattle.machine.specs.Empty.{empty_dock}
use Rattle.machine.specs.Step.{step}
use Rattle.machine.specs.Sequence.{Sent, enter, after}
use Rattle.machine.specs.Numbers.{request_width, answer_width, answer_numbers}
use Rattle.preservation.specs.InOrder.{DockOk}
use Rattle.preservation.proofs.StepKeepsOrder.{step_keeps, result_at_most_12, empty_dock_ok}
use Rattle.preservation.proofs.Results.{dock_refusal_low}
use Rattle.preservation.proofs.TestMeansOrder.{test_means_order}
use Rattle.text_marks.specs.Marks.{mark_bytes}
use Rattle.report.specs.Report.{report_room, report}
use Rattle.report.proofs.Short.{report_short}
use Rattle.image_read.specs.Places.{last_start}
use Rattle.image_read.proofs.Places.{last_here}
use Rattle.image_find.proofs.Laws.{flattened, decoded_sized}
use Rattle.lending.specs.Report.{report_refusal, report_lent}
use Rattle.image.specs.Layout.{image_size}
use Rattle.image.specs.Image.{decode}
use Rattle.trace_texts.specs.Trace.{trace_room}
use Rattle.trace_texts.proofs.AnswersLaws.{trace_short_from}
use Rattle.lending.specs.Batch.{lengths_fit, batch_refusal, all_served, untouched, batch}
use Rattle.lending.specs.Host.{step_refusal, step_image, check_image}
use Rattle.lending.specs.Trace.{dock_of, trace_of, trace_refusal, trace_lent}
use Rattle.saved.specs.Save.{saved_room, saved}
use Rattle.saved.specs.Load.{load}
use Rattle.saved.specs.Claims.{NumbersFit, with_loaded}
use Rattle.restoring.proofs.SavedShort.{saved_short}
use Rattle.lending.specs.Saved.{save_refusal, save_lent}
use Rattle.host_isolation.specs.Calls.{Dock, Call, emptying, stepping, serving, tracing, reporting, saving, loading, checking, testing}
use Rattle.host_isolation.specs.Calls.{lent, lent_trace, lent_report, lent_save, result, left, left_by_all, Exchange, made, loads}
use Rattle.host_isolation.specs.Calls.{Usable, UsableForHosts, UsableFromLoaded, UsableInOrder}
use Rattle.host_isolation.proofs.Traced.{traced}
use Rattle.host_isolation.proofs.Stands.{Stands, is_image_lem, in_order_lem, tables_ok_lem, stands_whole, order_0, kept_stands}
use Rattle.host_isolation.proofs.Stands.{is_emptied, emptied_stands, is_loaded, loaded_ok, loaded_stands}
use Rattle.host_isolation.proofs.OneCall.{start_of, step_low}
use Rattle.host_isolation.proofs.ForHosts.{call_makes}

-- past 14 only what comes later
not_14 : (x : Bool) (later : ℕ) → (later ≡ 14 → ⊥) → (13 when x else 14 when false else later) ≡ 14 → ⊥
unfolding ◌when◌else◌
not_14 true later h z = omega arith
not_14 false later h z = h z

only_17 : (y : Bool) → (17 when y else 0) ≡ 14 → ⊥
unfolding ◌when◌else◌
only_17 true z = omega arith
only_17 false z = omega arith

16-or-17 : (x y : Bool) → (16 when x else 17 when y else 0) ≡ 14 → ⊥
unfolding ◌when◌else◌
16-or-17 true y z = omega arith
16-or-17 false y z = only_17 y z

-- no answer of a sequence is above 12
low_answer : Exchange → Bool
low_answer x = leb (get_or x.answer 0 0) 12

traced_low : (is : List Sent) (s : State) → DockOk s → all low_answer (traced s is) ≡ true
unfolding all traced low_answer enter answer_numbers
traced_low [] s ok = refl
traced_low (i ∷ is) s ok =
    let entered : DockOk (enter s i) = record { tables = ok.tables; store = ok.store } in
    and_intro (le-leb (step (enter s i) i.request).answer.result 12 (result_at_most_12 (enter s i) i.request entered i.whole))
    (traced_low is (step (enter s i) i.request).state (step_keeps (enter s i) i.request entered i.whole))

start_ok : (c : Call) (s : State) → DockOk s → DockOk (start_of c s)
start_ok emptying s ok = empty_dock_ok
start_ok (stepping sheet request answer) s ok = ok
start_ok (serving sheets requests answers) s ok = ok
start_ok (tracing input output) s ok = ok
start_ok (reporting scratch output) s ok = ok
start_ok (saving output) s ok = ok
start_ok (loading text) s ok = loaded_ok text s.store ok.store
start_ok (checking pad program number sheet right) s ok = ok
start_ok testing s ok = ok

-- a last number that is read from two bytes has 16 bits
numbers_fit : (bytes : List ℕ) → ((i : ℕ) → get_or bytes i 0 < 256) → NumbersFit (decode bytes)
numbers_fit bytes small pad program p q =
    let at = 8 * pad + program in
    let said = sym ((flattened bytes).last pad program p q) ∙ last_here bytes at (omega arith) in
    omega (arith, said, small (last_start at), small (last_start at + 1))

module _ (d : Dock) (s : State) (h : Stands d s) where
  abbrev long : length d.image ≡ image_size
  long = (stands_whole d s h).image

  empty_0 : result d emptying ≡ 0
  unfolding result
  empty_0 = λ i. (is_emptied d.image d.store long (stands_whole d s h).store i).result

  pub step_0 : (sheet request answer : List ℕ) → length sheet ≡ 64 → length request ≡ request_width → length answer ≡ answer_width → step_refusal (lent d sheet request answer) ≡ 0
  unfolding step_refusal ◌when◌else◌
  step_0 sheet request answer a b c =
      rw (
        eq-eqb (length d.image) image_size long,
        eq-eqb (length d.store) 16384 (stands_whole d s h).store,
        eq-eqb (length sheet) 64 a,
        eq-eqb (length request) request_width b,
        eq-eqb (length answer) answer_width c,
        tables_ok_lem d s h,
      )

  pub serve_0 : (n : ℕ) (sheets requests answers : List ℕ) → length sheets ≡ 64 * n → length requests ≡ request_width * n → length answers ≡ answer_width * n
      → batch_refusal (lent d sheets requests answers) ≡ 0
  unfolding batch_refusal lengths_fit ◌when◌else◌
  serve_0 n sheets requests answers a b c =
      let q : length requests / request_width ≡ n = omega (arith, b) in
      rw (
        q,
        eq-eqb (length d.image) image_size long,
        eq-eqb (length d.store) 16384 (stands_whole d s h).store,
        eq-eqb (length sheets) (64 * n) a,
        eq-eqb (length requests) (request_width * n) b,
        eq-eqb (length answers) (answer_width * n) c,
        tables_ok_lem d s h,
      )

  step_not_14 : (sheet request answer : List ℕ) → step_refusal (lent d sheet request answer) ≡ 14 → ⊥
  unfolding step_refusal
  step_not_14 sheet request answer z =
      not_14 (not (eqb (length d.image) image_size && eqb (length d.store) 16384 && eqb (length sheet) 64 && eqb (length request) request_width && eqb (length answer) answer_width)) 0
      (λ w. omega arith) (rw (tables_ok_lem d s h) at z)

  serve_not_14 : (sheets requests answers : List ℕ) → batch_refusal (lent d sheets requests answers) ≡ 14 → ⊥
  unfolding batch_refusal
  serve_not_14 sheets requests answers z =
      not_14 (not (lengths_fit (length d.image) (length d.store) (length sheets) (length requests) (length answers))) 0 (λ w. omega arith) (rw (tables_ok_lem d s h) at z)

  stepped_not_14 : (sheet request answer : List ℕ) → Case (eqb (step_refusal (lent d sheet request answer)) 0)
      → (step_image (lent d sheet request answer)).result ≡ 14 → ⊥
  unfolding step_image untouched
  stepped_not_14 sheet request answer (pass e) z =
      let low = step_low d sheet request answer s h e in
      omega (arith, z, low)
  stepped_not_14 sheet request answer (fail e) z = step_not_14 sheet request answer (rw e at z)

  served_not_14 : (sheets requests answers : List ℕ) → Case (eqb (batch_refusal (lent d sheets requests answers)) 0)
      → (batch (lent d sheets requests answers)).result ≡ 14 → ⊥
  unfolding batch all_served untouched
  served_not_14 sheets requests answers (pass e) z = let z' : ◌≡◌ {A = ℕ} 0 14 = rw e at z in omega arith
  served_not_14 sheets requests answers (fail e) z = serve_not_14 sheets requests answers (rw e at z)

  trace_0 : (input output : List ℕ) → trace_room ≤ length output → trace_refusal (lent_trace d input output) ≡ 0
  unfolding trace_refusal ◌when◌else◌
  trace_0 input output room =
      let short = trace_short_from (dock_of d.image d.store) input in
      rw (
        eq-eqb (length d.image) image_size long,
        eq-eqb (length d.store) 16384 (stands_whole d s h).store,
        tables_ok_lem d s h,
        le-leb (length (trace_of (lent_trace d input output))) (length output) (omega (arith, short, room)),
      )

  trace_not_14 : (input output : List ℕ) → trace_refusal (lent_trace d input output) ≡ 14 → ⊥
  unfolding trace_refusal
  trace_not_14 input output z =
      not_14 (not (eqb (length d.image) image_size && eqb (length d.store) 16384)) (17 when not (leb (length (trace_of (lent_trace d input output))) (length output)) else 0)
      (only_17 (not (leb (length (trace_of (lent_trace d input output))) (length output)))) (rw (tables_ok_lem d s h) at z)

  traced_not_14 : (input output : List ℕ) → Case (eqb (trace_refusal (lent_trace d input output)) 0) → (trace_lent (lent_trace d input output)).result ≡ 14 → ⊥
  unfolding trace_lent
  traced_not_14 input output (pass e) z = let z' : ◌≡◌ {A = ℕ} 0 14 = rw e at z in omega arith
  traced_not_14 input output (fail e) z = trace_not_14 input output (rw e at z)

  report_0 : (scratch output : List ℕ) → length scratch ≡ mark_bytes → report_room ≤ length output → report_refusal (lent_report d scratch output) ≡ 0
  unfolding report_refusal ◌when◌else◌
  report_0 scratch output marks room =
      let short = report_short (decode d.image) (test_means_order (decode d.image) (decoded_sized d.image) (in_order_lem d s h)) in
      rw (
        eq-eqb (length d.image) image_size long,
        tables_ok_lem d s h,
        eq-eqb (length scratch) mark_bytes marks,
        le-leb (length (report (decode d.image))) (length output) (omega (arith, short, room)),
      )

  report_not_14 : (scratch output : List ℕ) → report_refusal (lent_report d scratch output) ≡ 14 → ⊥
  unfolding report_refusal
  report_not_14 scratch output z =
      let short = not (leb (length (report (decode d.image))) (length output)) in
      not_14 (not (eqb (length d.image) image_size)) (16 when not (eqb (length scratch) mark_bytes) else 17 when short else 0)
      (16-or-17 (not (eqb (length scratch) mark_bytes)) short) (rw (tables_ok_lem d s h) at z)

  reported_not_14 : (scratch output : List ℕ) → Case (eqb (report_refusal (lent_report d scratch output)) 0)
      → (report_lent (lent_report d scratch output)).result ≡ 14 → ⊥
  unfolding report_lent
  reported_not_14 scratch output (pass e) z = let z' : ◌≡◌ {A = ℕ} 0 14 = rw e at z in omega arith
  reported_not_14 scratch output (fail e) z = report_not_14 scratch output (rw e at z)

  save_0 : ((i : ℕ) → get_or d.image i 0 < 256) → (output : List ℕ) → saved_room ≤ length output → save_refusal (lent_save d output) ≡ 0
  unfolding save_refusal ◌when◌else◌
  save_0 small output room =
      let short = saved_short (decode d.image) (decoded_sized d.image) (numbers_fit d.image small) (in_order_lem d s h) in
      rw (
        eq-eqb (length d.image) image_size long,
        tables_ok_lem d s h,
        le-leb (length (saved (decode d.image))) (length output) (omega (arith, short, room)),
      )

  save_not_14 : (output : List ℕ) → save_refusal (lent_save d output) ≡ 14 → ⊥
  unfolding save_refusal
  save_not_14 output z =
      let short = not (leb (length (saved (decode d.image))) (length output)) in
      not_14 (not (eqb (length d.image) image_size)) (17 when short else 0) (only_17 short) (rw (tables_ok_lem d s h) at z)

  saved_not_14 : (output : List ℕ) → Case (eqb (save_refusal (lent_save d output)) 0) → (save_lent (lent_save d output)).result ≡ 14 → ⊥
  unfolding save_lent
  saved_not_14 output (pass e) z = let z' : ◌≡◌ {A = ℕ} 0 14 = rw e at z in omega arith
  saved_not_14 output (fail e) z = save_not_14 output (rw e at z)

  load_said : (text : List ℕ) → result d (loading text) ≡ (load text).result
  unfolding result
  load_said text i = (is_loaded d.image text long i).result

  check_low : (pad program number sheet right : ℕ) → check_image d.image pad program number sheet right ≤ 12
  unfolding check_image dock_check ◌when◌else◌
  check_low pad program number sheet right =
      rw (eq-eqb (length d.image) image_size long, is_image_lem d s h, in_order_lem d s h) (dock_refusal_low (decode d.image) (name_of pad program number) sheet right)

  never : (c : Call) → loads c ≡ false → result d c ≡ 14 → ⊥
  unfolding result
  never emptying l z = let zero14 : ◌≡◌ {A = ℕ} 0 14 = sym empty_0 ∙ z in omega arith
  never (stepping sheet request answer) l z = stepped_not_14 sheet request answer (case (eqb (step_refusal (lent d sheet request answer)) 0)) z
  never (serving sheets requests answers) l z = served_not_14 sheets requests answers (case (eqb (batch_refusal (lent d sheets requests answers)) 0)) z
  never (tracing input output) l z = traced_not_14 input output (case (eqb (trace_refusal (lent_trace d input output)) 0)) z
  never (reporting scratch output) l z = reported_not_14 scratch output (case (eqb (report_refusal (lent_report d scratch output)) 0)) z
  never (saving output) l z = saved_not_14 output (case (eqb (save_refusal (lent_save d output)) 0)) z
  never (loading text) l z = contradiction refl l
  never (checking pad program number sheet right) l z = let low = check_low pad program number sheet right in omega (arith, low, z)
  never testing l z = let zero14 : ◌≡◌ {A = ℕ} 0 14 = sym (order_0 d s h) ∙ z in omega arith

  low_answers : (c : Call) → all low_answer (made d c) ≡ true
  unfolding low_answer
  low_answers c = let m = call_makes d s h c in ap (all low_answer) m.same ∙ traced_low m.sent (start_of c s) (start_ok c s h.ok)

  usable : Usable d
  unfolding low_answer
  usable = record {
    whole = stands_whole d s h;
    never14 = never;
    answered = low_answers;
    emptied = empty_0;
    stepped = step_0;
    served = serve_0;
    traced = trace_0;
    reported = report_0;
    saved = save_0;
    loaded = load_said;
  }

usable_after : (cs : List Call) (d : Dock) (s : State) → Stands d s → Usable (left_by_all d cs)
unfolding left_by_all
usable_after [] d s h = usable d s h
usable_after (c ∷ cs) d s h =
    let m = call_makes d s h c in
    usable_after cs (left d c) (after (start_of c s) m.sent) m.stands

pub usable_for_hosts : UsableForHosts
unfolding left_by_all
usable_for_hosts d w cs = usable_after cs (left d emptying) empty_dock (emptied_stands d w)

pub usable_from_loaded : UsableFromLoaded
unfolding left_by_all
usable_from_loaded d w text cs = usable_after cs (left d (loading text)) (with_loaded text d.store []) (loaded_stands d w text d.store refl)

pub usable_in_order : UsableInOrder
unfolding result
usable_in_order d w small z cs = usable_after cs d (dock_of d.image d.store) (kept_stands d w small z)
