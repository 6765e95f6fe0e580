-- The whole trace: the names, then the answers to the lines behind the input's names, or one line for an input that is refused.
use Prim.Native.Nat.{ℕ, ◌+◌, ◌≤◌, ◌<◌}
use native.Mathlib.Omega.{arith}
use mathlib.Core.Path.{◌≡◌, sym, ap, subst, ◌∙◌}
use mathlib.Core.Bool.{true, false}
use mathlib.Core.List.{List, [], ◌∷◌, ◌++◌}
use Rattle.std.specs.Prelude.{Ok, Err}
use lib.Dec.{eqb}
use lib.ListN.{length, take, drop, replicate, length-replicate}
use lib.Seq.{append_snoc, take_at}
use borrow.Author.Tests.{le-leb, lt-leb}
use Rattle.lists.proofs.Tests.{and_false}
use Rattle.lists.proofs.Search.{first_within}
use Rattle.tables.specs.Names.{empty_tables}
use Rattle.tables.specs.Order.{in_order}
use Rattle.machine.specs.State.{State}
use Rattle.machine.specs.Empty.{empty_store, empty_dock}
use Rattle.preservation.proofs.EmptyDockInOrder.{empty_sized, empty_invariant}
use Rattle.preservation.proofs.OrderPassesTest.{order_passes_test}
use Rattle.image.specs.Layout.{image_size}
use Rattle.image.specs.Image.{decode, is_image}
use Rattle.image.proofs.EmptyImage.{empty_zeros, zeros_empty}
use Rattle.image.proofs.RoundTrip.{encode_is_image}
use Rattle.text.specs.Bytes.{bytes, line_end}
use Rattle.text.specs.Reading.{lines}
use Rattle.text.specs.Names.{behind_names, first_line_of}
use Rattle.text.specs.Writing.{Writes}
use Rattle.text.specs.Appending.{Appends, Countable}
use Rattle.text.proofs.NamesLaws.{other_first, first_named, lines_behind}
use Rattle.text.proofs.WritingLaws.{writes_fits}
use Rattle.text.proofs.Appending.{append_as, append_both}
use Rattle.trace_texts.specs.Line.{other_line}
use Rattle.trace_texts.specs.Trace.{longest_input, trace_room, input_names, output_names, answers, after_lines, input_ok, trace_from, after_trace, trace}
use Rattle.lending.specs.Trace.{dock_of}
use Rattle.text_trace.specs.Contract.{Servable, LeavesDock}
use Rattle.trace_texts.proofs.AnswerLine.{other_short}
use Rattle.trace_texts.proofs.AnswersLaws.{answers_fit, trace_short}

-- ---- the emptied dock, as an image and a store of zeros
zeros_tables : decode (replicate image_size 0) ≡ empty_tables
zeros_tables = zeros_empty empty_sized

zeros_dock : dock_of (replicate image_size 0) (replicate 16384 0) ≡ empty_dock
unfolding empty_dock
zeros_dock i = record { tables = zeros_tables i; store = empty_store; sheet = replicate 64 0 }

pub from_zeros : (input : List ℕ) {before after : List ℕ} {r : ℕ}
    → Writes (trace_from (dock_of (replicate image_size 0) (replicate 16384 0)) input) before after r → Writes (trace input) before after r
from_zeros input {before} {after} {r} w = subst (λ (s : State). Writes (trace_from s input) before after r) zeros_dock w

pub zeros_ready : Servable (replicate image_size 0) (replicate 16384 0)
zeros_ready = record {
  is = ap is_image (sym empty_zeros) ∙ encode_is_image empty_tables;
  order = ap in_order zeros_tables ∙ order_passes_test empty_tables empty_invariant;
  store = length-replicate {A = ℕ} 16384 0;
}

-- ---- the input
module _ (input : List ℕ) where
  pub too_long : longest_input < length input → input_ok input ≡ false
  unfolding input_ok
  too_long h = rw (lt-leb (length input) longest_input h)

  pub other_names : (end : ℕ) → Err end ≡ first_line_of input_names input → input_ok input ≡ false
  unfolding input_ok
  other_names end e = rw (other_first input_names input end e, and_false)

  module _ (end : ℕ) (told : Ok end ≡ first_line_of input_names input) where
    pub is_ok : length input ≤ longest_input → input_ok input ≡ true
    unfolding input_ok
    is_ok h = rw (le-leb (length input) longest_input h) (first_named input_names input end told).0

    pub end_inside : end ≤ length input
    end_inside = omega (arith, (first_named input_names input end told).1, first_within (λ b. eqb b line_end) input)

    pub behind_first : behind_names (lines input) ≡ lines (drop (end + 1) input)
    behind_first = lines_behind input end (first_named input_names input end told).1

-- ---- the output
abbrev pub names_line : List ℕ
names_line = output_names ++ line_end ∷ []

module _ (out middle : List ℕ) (at : ℕ) (names : Appends names_line out middle 0 at) where
  pub names_end : at ≡ 34
  unfolding output_names bytes
  names_end = omega (arith, names.total)

  pub refused_fits : Countable at (other_line 0)
  refused_fits = omega (arith, names_end, other_short 0)

  module _ (s : State) (input after : List ℕ) (answer : ℕ) where
    pub refused_trace : input_ok input ≡ false → Appends (other_line 0) middle after at answer → Appends (trace_from s input) out after 0 answer
    unfolding trace_from
    refused_trace e put =
        rw e (append_as _ _ out after 0 answer (append_snoc output_names line_end (other_line 0))
        (append_both names_line (other_line 0) out middle after 0 at answer names put))

    pub served_trace : input_ok input ≡ true → Appends (answers 1 s (behind_names (lines input))) middle after at answer
        → Appends (trace_from s input) out after 0 answer
    unfolding trace_from
    served_trace e put =
        let served = answers 1 s (behind_names (lines input)) in
        rw e (append_as _ _ out after 0 answer (append_snoc output_names line_end served)
        (append_both names_line served out middle after 0 at answer names put))

-- ---- behind the names
module _ (s : State) (input : List ℕ) where
  module _ (end : ℕ) (told : Ok end ≡ first_line_of input_names input) where
    pub served_answers : answers 1 s (behind_names (lines input)) ≡ answers 1 s (lines (drop (end + 1) input))
    served_answers = ap (answers 1 s) (behind_first input end told)

    pub served_fits : (at : ℕ) → at ≡ 34 → input_ok input ≡ true → Countable at (answers 1 s (lines (drop (end + 1) input)))
    served_fits at e ok = subst (Countable at) served_answers (omega (arith, e, answers_fit s input ok))

    -- the dock that is left
    pub served_leaves : {image bytes : List ℕ} → input_ok input ≡ true → LeavesDock (after_lines s (lines (drop (end + 1) input))) image bytes
        → LeavesDock (after_trace s input) image bytes
    unfolding after_trace
    served_leaves {image} {bytes} ok h =
        rw ok (subst (λ (ls : List (List ℕ)). LeavesDock (after_lines s ls) image bytes) (sym (behind_first input end told)) h)

  pub refused_leaves : {image bytes : List ℕ} → input_ok input ≡ false → LeavesDock s image bytes → LeavesDock (after_trace s input) image bytes
  unfolding after_trace
  refused_leaves e h = rw e h

-- ---- an output of `trace_room` bytes takes every trace
pub whole_in_buffer : (input before after : List ℕ) (r : ℕ) → length before ≡ trace_room → Writes (trace input) before after r
    → take r after ≡ trace input
whole_in_buffer input before after r long w =
    let (output, total) = writes_fits (trace input) before after r (omega (arith, trace_short input)) w in
    ap (take r) output ∙ take_at (trace input) (drop (length (trace input)) before) r (sym total)
