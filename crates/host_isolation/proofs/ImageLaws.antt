-- The laws of what the calls leave: `decode_encode` for what is left, `encode_decode` for what is refused.
use Prim.Native.Nat.{ℕ, zero, suc}
use mathlib.Core.Path.{◌≡◌, refl, sym, ap, ◌∙◌}
use mathlib.Core.List.{List, [], ◌∷◌}
use lib.Dec.{eqb}
use lib.ListN.{length}
use borrow.Author.Tests.{eqb-true, eqb-false, eq-eqb, ne_eqb}
use Rattle.lists.proofs.Tests.{Case, pass, fail, case}
use Rattle.tables.specs.Lookup.{Sized}
use Rattle.tables.specs.Names.{empty_tables}
use Rattle.machine.specs.State.{State, state_of}
use Rattle.machine.specs.Numbers.{request_of}
use Rattle.machine.specs.Sequence.{enter}
use Rattle.machine.specs.Empty.{emptied}
use Rattle.machine.proofs.Untouched.{refused_leaves, dropped_leaves}
use Rattle.preservation.proofs.EmptyDockInOrder.{empty_sized}
use Rattle.preservation.proofs.SizedKept.{step_keeps_sized}
use Rattle.image.specs.Layout.{image_size}
use Rattle.image.specs.Image.{decode}
use Rattle.image.proofs.RoundTrip.{decode_encode}
use Rattle.image_find.proofs.Laws.{decoded_sized}
use Rattle.text.specs.Reading.{lines}
use Rattle.text.specs.Names.{behind_names}
use Rattle.trace_texts.specs.Line.{in_form, sent_by}
use Rattle.trace_texts.specs.Trace.{left_by_line, after_lines, input_ok, after_trace}
use Rattle.trace_texts.proofs.AnswersLaws.{left_served, left_other}
use Rattle.lending.specs.Numbers.{request_at, count_of}
use Rattle.lending.specs.Sequence.{Start, met, outcome_at}
use Rattle.lending.specs.Batch.{Buffers, Left, batch_refusal, start_of, all_served, untouched, batch}
use Rattle.lending.specs.Host.{empty_image, step_refusal, step_outcome, left_by, step_image}
use Rattle.lending.specs.Trace.{TraceBuffers, dock_of, state_after, trace_refusal, trace_lent}
use Rattle.saved.specs.Load.{load_refusal, load}
use Rattle.restoring.proofs.LoadingSound.{loading_is_sound}
use Rattle.lending.specs.Saved.{LoadLeft, load_lent}
use Rattle.lending.proofs.Refusals.{tables_image, step_served, step_refused, step_tables}
use Rattle.lending.proofs.Kept.{image_kept}
use Rattle.host_isolation.specs.Images.{AllBytes, AsBefore, AfterStep, AfterServe, AfterTrace, AfterLoad, ImageLaws}
use Rattle.host_isolation.proofs.Stands.{is_loaded}

-- ---- dock_step
module _ (b : Buffers) where
  abbrev met_state : State
  met_state = state_of (decode b.tables) b.store b.sheets

  step_read : step_refusal b ≡ 0 → decode (step_image b).tables ≡ (step_outcome b).state.tables
  unfolding left_by step_outcome
  step_read e =
      ap (λ (l : Left). decode l.tables) (step_served b e)
      ∙ decode_encode (step_outcome b).state.tables (step_keeps_sized met_state (request_of b.requests) (decoded_sized b.tables))

  step_kept : AllBytes b.tables → ((step_image b).result ≡ 0 → ⊥) → ((step_image b).result ≡ 12 → ⊥) → Case (eqb (step_refusal b) 0) → AsBefore b (step_image b)
  unfolding untouched left_by step_outcome
  step_kept small x y (fail e) =
      let is = step_refused b (eqb-false (step_refusal b) 0 e) in
      record { tables = λ i. (is i).tables; store = λ i. (is i).store; sheets = λ i. (is i).sheets }
  step_kept small x y (pass e) =
      let none = eqb-true (step_refusal b) 0 e in
      let is = step_served b none in
      let r = request_of b.requests in
      let not0 : (step_outcome b).answer.result ≡ 0 → ⊥ = λ z. x ((λ i. (is i).result) ∙ z) in
      let not12 : (step_outcome b).answer.result ≡ 12 → ⊥ = λ z. y ((λ i. (is i).result) ∙ z) in
      let same : (step_outcome b).state ≡ met_state = refused_leaves met_state r not0 not12 in
      record {
        tables = (λ i. (is i).tables) ∙ image_kept b.tables b.store b.sheets r small (tables_image b.tables (step_tables b none)) not0 not12;
        store = (λ i. (is i).store) ∙ ap (λ (s : State). s.store) same;
        sheets = (λ i. (is i).sheets) ∙ ap (λ (s : State). s.sheet) same;
      }

  step_12 : (step_image b).result ≡ 12 → Case (eqb (step_refusal b) 0) → ((step_image b).store ≡ b.store) × ((step_image b).sheets ≡ b.sheets)
  unfolding untouched left_by step_outcome
  step_12 x (fail e) = let is = step_refused b (eqb-false (step_refusal b) 0 e) in ((λ i. (is i).store), (λ i. (is i).sheets))
  step_12 x (pass e) =
      let is = step_served b (eqb-true (step_refusal b) 0 e) in
      let same = dropped_leaves met_state (request_of b.requests) (sym (λ i. (is i).result) ∙ x) in
      ((λ i. (is i).store) ∙ same.0, (λ i. (is i).sheets) ∙ same.1)

  step_answer : (step_refusal b ≡ 0 → ⊥) → (step_image b).answers ≡ b.answers
  unfolding untouched
  step_answer x = let is = step_refused b x in λ i. (is i).answers

  after_step : AfterStep b
  after_step = record {
    read = step_read;
    kept = λ small x y. step_kept small x y (case (eqb (step_refusal b) 0));
    store12 = λ x. (step_12 x (case (eqb (step_refusal b) 0))).0;
    sheet12 = λ x. (step_12 x (case (eqb (step_refusal b) 0))).1;
    answer = step_answer;
  }

-- ---- dock_serve
met_sized : (b : Start) → Sized b.tables → (i : ℕ) → Sized (met b i).tables
unfolding met
met_sized b z zero = z
met_sized b z (suc i) = step_keeps_sized (met b i) (request_at i b.requests) (met_sized b z i)

module _ (b : Buffers) where
  serve_read : batch_refusal b ≡ 0 → decode (batch b).tables ≡ (met (start_of b) (count_of b.requests)).tables
  unfolding batch all_served
  serve_read e =
      let n = count_of b.requests in
      rw e (decode_encode (met (start_of b) n).tables (met_sized (start_of b) (decoded_sized b.tables) n))

  serve_refused : ((batch b).result ≡ 0 → ⊥) → Case (eqb (batch_refusal b) 0) → batch b ≡ untouched b (batch_refusal b)
  unfolding batch all_served
  serve_refused x (pass e) = absurd (x (rw e refl))
  serve_refused x (fail e) = rw e

  after_serve : AfterServe b
  unfolding untouched outcome_at
  after_serve = record {
    read = serve_read;
    kept = λ x.
        let is = serve_refused x (case (eqb (batch_refusal b) 0)) in
        record { tables = λ i. (is i).tables; store = λ i. (is i).store; sheets = λ i. (is i).sheets };
    answers = λ x. let is = serve_refused x (case (eqb (batch_refusal b) 0)) in λ i. (is i).answers;
    each = λ i x y. refused_leaves (met (start_of b) i) (request_at i b.requests) x y;
  }

-- ---- dock_trace
line_sized : (s : State) → Sized s.tables → (line : List ℕ) → Case (in_form line) → Sized (left_by_line s line).tables
unfolding enter
line_sized s z line (pass e) = rw (left_served s line e) (step_keeps_sized (enter s (sent_by line)) (sent_by line).request z)
line_sized s z line (fail e) = rw (left_other s line e) z

lines_sized : (ls : List (List ℕ)) (s : State) → Sized s.tables → Sized (after_lines s ls).tables
unfolding after_lines
lines_sized [] s z = z
lines_sized (line ∷ later) s z = lines_sized later (left_by_line s line) (line_sized s z line (case (in_form line)))

trace_sized : (s : State) (input : List ℕ) → Sized s.tables → Case (input_ok input) → Sized (after_trace s input).tables
unfolding after_trace
trace_sized s input z (pass e) = rw e (lines_sized (behind_names (lines input)) s z)
trace_sized s input z (fail e) = rw e z

module _ (b : TraceBuffers) where
  trace_read : trace_refusal b ≡ 0 → decode (trace_lent b).tables ≡ (state_after b).tables
  unfolding trace_lent
  trace_read e =
      rw e
      (decode_encode (state_after b).tables
      (trace_sized (dock_of b.tables b.store) b.input (decoded_sized b.tables) (case (input_ok b.input))))

  trace_refused : ((trace_lent b).result ≡ 0 → ⊥) → Case (eqb (trace_refusal b) 0)
      → trace_lent b ≡ record { result = trace_refusal b; tables = b.tables; store = b.store; output = b.output; size = 0 }
  unfolding trace_lent
  trace_refused x (pass e) = absurd (x (rw e refl))
  trace_refused x (fail e) = rw e

  after_trace_lem : AfterTrace b
  after_trace_lem = record {
    read = trace_read;
    tables = λ x. let is = trace_refused x (case (eqb (trace_refusal b) 0)) in λ i. (is i).tables;
    store = λ x. let is = trace_refused x (case (eqb (trace_refusal b) 0)) in λ i. (is i).store;
    output = λ x. let is = trace_refused x (case (eqb (trace_refusal b) 0)) in λ i. (is i).output;
  }

-- ---- dock_empty
module _ (tables store : List ℕ) where
  empty_tables_lem : Case (eqb (length store) 16384) → (emptied store).tables ≡ empty_tables
  unfolding emptied
  empty_tables_lem (pass e) = rw e refl
  empty_tables_lem (fail e) = rw e refl

  empty_read : length tables ≡ image_size → decode (empty_image tables store).tables ≡ empty_tables
  unfolding empty_image
  empty_read long =
      rw (eq-eqb (length tables) image_size long, empty_tables_lem (case (eqb (length store) 16384))) (decode_encode empty_tables empty_sized)

  empty_kept : ((empty_image tables store).result ≡ 0 → ⊥) → Case (eqb (length tables) image_size) → Case (eqb (length store) 16384)
      → (empty_image tables store).store ≡ store
  unfolding empty_image emptied
  empty_kept x (fail e) _ = rw e refl
  empty_kept x (pass e) (fail f) = rw (e, f) refl
  empty_kept x (pass e) (pass f) = absurd (x (rw (e, f) refl))

  empty_other : (length tables ≡ image_size → ⊥) → (empty_image tables store).tables ≡ tables
  unfolding empty_image
  empty_other x = rw (ne_eqb (length tables) image_size x) refl

-- ---- dock_load
load_empty : (text : List ℕ) → ((load text).result ≡ 0 → ⊥) → (load text).tables ≡ empty_tables
unfolding load
load_empty text x = rw (ne_eqb (load_refusal text) 0 x) refl

module _ (tables text : List ℕ) where
  load_read : length tables ≡ image_size → decode (load_lent tables text).tables ≡ (load text).tables
  load_read long =
      ap (λ (l : LoadLeft). decode l.tables) (is_loaded tables text long) ∙ decode_encode (load text).tables (loading_is_sound text).sized

  load_other : (length tables ≡ image_size → ⊥) → (load_lent tables text).tables ≡ tables
  unfolding load_lent
  load_other x = rw (ne_eqb (length tables) image_size x) refl

  after_load : AfterLoad tables text
  after_load = record {
    read = load_read;
    refused = λ long x. load_read long ∙ load_empty text (λ z. x ((λ i. (is_loaded tables text long i).result) ∙ z));
    other = load_other;
  }

pub image_laws : ImageLaws
image_laws = record {
  step = after_step;
  serve = after_serve;
  trace = after_trace_lem;
  empty = λ tables store. record {
    read = empty_read tables store;
    kept = λ x. empty_kept tables store x (case (eqb (length tables) image_size)) (case (eqb (length store) 16384));
    other = empty_other tables store;
  };
  load = after_load;
}
