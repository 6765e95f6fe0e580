-- A trace on a dock that stands for a state: its lines in form are a sequence of requests, each with its fill, and what it leaves is what the
-- sequence leaves.
use Prim.Native.Nat.{ℕ}
use mathlib.Core.Path.{◌≡◌, refl, ap, ◌∙◌}
use mathlib.Core.Bool.{true, false, cond}
use mathlib.Core.List.{List, [], ◌∷◌}
use lib.Dec.{eqb}
use Rattle.lists.proofs.Tests.{Case, pass, fail, case}
use Rattle.machine.specs.State.{State}
use Rattle.machine.specs.Sequence.{Sent, after}
use Rattle.preservation.proofs.StepKeepsOrder.{sequence_keeps}
use Rattle.image.specs.Image.{encode}
use Rattle.text.specs.Reading.{lines}
use Rattle.text.specs.Names.{behind_names}
use Rattle.trace_texts.specs.Line.{in_form, sent_by}
use Rattle.trace_texts.specs.Trace.{served_by, after_lines, input_ok, after_trace}
use Rattle.trace_texts.proofs.AnswersLaws.{left_served, left_other}
use Rattle.lending.specs.Trace.{TraceBuffers, dock_of, state_after, trace_refusal, trace_lent}
use Rattle.host_isolation.specs.Calls.{Dock, tracing, lent_trace, left, Exchange, in_line, in_lines, made}
use Rattle.host_isolation.proofs.Traced.{seen_by, traced, traced_same, after_tables, after_store}
use Rattle.host_isolation.proofs.Stands.{Stands, decoded}
use Rattle.host_isolation.proofs.OneCall.{Makes, nothing_made}

-- ---- lines as a sequence
sent_in : List (List ℕ) → List Sent
sent_in [] = []
sent_in (line ∷ later) = cond (in_form line) (sent_by line ∷ sent_in later) (sent_in later)

lines_traced : (ls : List (List ℕ)) (s : State) → in_lines s ls ≡ traced s (sent_in ls)
unfolding in_line in_lines sent_in traced
lines_traced [] s = refl
lines_traced (line ∷ later) s = go (case (in_form line)) (lines_traced later)
  where
    go : Case (in_form line) → ((u : State) → in_lines u later ≡ traced u (sent_in later)) → in_lines s (line ∷ later) ≡ traced s (sent_in (line ∷ later))
    go (pass e) rest =
        rw (e, left_served s line e) (ap (λ (l : List Exchange). seen_by (sent_by line) (served_by s line) ∷ l) (rest (served_by s line).state))
    go (fail e) rest = rw (e, left_other s line e) (rest s)

lines_after : (ls : List (List ℕ)) (s : State) → after_lines s ls ≡ after s (sent_in ls)
unfolding after_lines sent_in after
lines_after [] s = refl
lines_after (line ∷ later) s = go (case (in_form line)) (lines_after later)
  where
    go : Case (in_form line) → ((u : State) → after_lines u later ≡ after u (sent_in later)) → after_lines s (line ∷ later) ≡ after s (sent_in (line ∷ later))
    go (pass e) rest = rw (e, left_served s line e) (rest (served_by s line).state)
    go (fail e) rest = rw (e, left_other s line e) (rest s)

-- ---- the trace
module _ (d : Dock) (input output : List ℕ) where
  abbrev b : TraceBuffers
  b = lent_trace d input output

  trace_refused : eqb (trace_refusal b) 0 ≡ false → made d (tracing input output) ≡ []
  unfolding made
  trace_refused e = rw e

  trace_untouched : eqb (trace_refusal b) 0 ≡ false → left d (tracing input output) ≡ d
  unfolding left trace_lent
  trace_untouched e = rw e

  module _ (s : State) (h : Stands d s) (e : eqb (trace_refusal b) 0 ≡ true) where
    abbrev start : State
    start = dock_of d.image d.store

    trace_left : left d (tracing input output) ≡ record { image = encode (state_after b).tables; store = (state_after b).store }
    unfolding left trace_lent
    trace_left = rw e

    -- whatever is sent, the dock stands for what it leaves
    made_of : (sent : List Sent) → made d (tracing input output) ≡ traced start sent → state_after b ≡ after start sent → Makes d (tracing input output) s
    made_of sent same is = record {
      sent = sent;
      same = same ∙ traced_same start s (decoded d s h) h.store sent;
      stands = record {
        image = (λ i. (trace_left i).image) ∙ ap encode ((λ i. (is i).tables) ∙ after_tables start s (decoded d s h) h.store sent);
        store = (λ i. (trace_left i).store) ∙ (λ i. (is i).store) ∙ after_store start s (decoded d s h) h.store sent;
        ok = sequence_keeps s h.ok sent;
      };
    }

    trace_makes : Case (input_ok input) → Makes d (tracing input output) s
    unfolding made after_trace traced after
    trace_makes (pass f) =
        let ls = behind_names (lines input) in
        made_of (sent_in ls) (rw (e, f) (lines_traced ls start)) (rw f (lines_after ls start))
    trace_makes (fail f) = made_of [] (rw (e, f) refl) (rw f refl)

  pub tracing_makes : (s : State) → Stands d s → Makes d (tracing input output) s
  tracing_makes s h = go (case (eqb (trace_refusal b) 0))
    where
      go : Case (eqb (trace_refusal b) 0) → Makes d (tracing input output) s
      go (pass e) = trace_makes s h e (case (input_ok input))
      go (fail e) = nothing_made d (tracing input output) s (trace_refused e) (trace_untouched e) h
