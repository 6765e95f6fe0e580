-- The lines one after the other. Before the line that begins at `from`, with `done` lines behind it and `total` bytes of output: whoever
-- appends the answers to the rest has appended the answers to all, and the rest leaves the state that all leave.
use Prim.Native.Nat.{ℕ, ◌+◌, ◌-◌, ◌≤◌, ◌<◌}
use native.Mathlib.Omega.{arith}
use mathlib.Core.Path.{◌≡◌, refl, sym, ap, ◌∙◌}
use mathlib.Core.List.{List, [], ◌∷◌, ◌++◌}
use lib.ListN.{length, get_or, take, drop, length-append}
use Rattle.machine.specs.State.{State}
use Rattle.image.specs.Image.{encode, decode}
use Rattle.text.specs.Bytes.{line_end}
use Rattle.text.specs.Reading.{lines}
use Rattle.text.specs.Appending.{Appends, Countable}
use Rattle.text.proofs.ReadingLaws.{up_to}
use Rattle.text.proofs.NextLine.{no_line, line_at, line_first}
use Rattle.text.proofs.NextLine as next_line
use Rattle.text.proofs.Appending.{append_as, append_none, append_both}
use Rattle.trace_texts.specs.Trace.{answer_to, left_by_line, answers, after_lines}
use Rattle.lending.specs.Trace.{dock_of}
use Rattle.text_trace.specs.Contract.{Servable, LinesFrom, LeavesDock}
use Rattle.trace_texts.proofs.AnswersLaws.{answers_none, answers_more, after_none, after_more}
use Rattle.text_trace.proofs.SameDock.{SameDock, same_trans, same_sym, same_of, same_answers, same_after}
use Rattle.text_trace.proofs.LineServed.{same_image, still_ready}

-- the answers to the rest, and the state that it leaves
abbrev pub rest_of : State → List ℕ → ℕ → ℕ → List ℕ
rest_of s input from done = answers (done + 1) s (lines (drop from input))

abbrev pub end_of : State → List ℕ → ℕ → State
end_of s input from = after_lines s (lines (drop from input))

pub record Going (s₀ : State) (input : List ℕ) (start : ℕ) (before : List ℕ) (at : ℕ) (image bytes out : List ℕ) (from done total : ℕ) : Type 0 where
  pub inside : from ≤ length input + 1
  pub counted : done < from
  pub ready : Servable image bytes
  pub encoded : image ≡ encode (decode image)
  pub kept : length out ≡ length before
  pub bound : Countable total (rest_of (dock_of image bytes) input from done)
  pub rest : (after : List ℕ) (r : ℕ) → Appends (rest_of (dock_of image bytes) input from done) out after total r
      → Appends (rest_of s₀ input start 0) before after at r
  pub left : SameDock (end_of (dock_of image bytes) input from) (end_of s₀ input start)

pub begins : (image bytes input : List ℕ) (start : ℕ) (out : List ℕ) (at : ℕ) → ((j : ℕ) → get_or image j 0 < 256) → Servable image bytes
    → LinesFrom start input → Countable at (rest_of (dock_of image bytes) input start 0)
    → Going (dock_of image bytes) input start out at image bytes out start 0 at
begins image bytes input start out at small ready behind bound = record {
  inside = behind.inside;
  counted = behind.first;
  ready = ready;
  encoded = same_image image bytes small ready;
  kept = refl;
  bound = bound;
  rest = λ after r a. a;
  left = same_of _ _ refl;
}

module _ (s₀ : State) (input : List ℕ) (start : ℕ) (before : List ℕ) (at : ℕ) (image bytes out : List ℕ) (from done total : ℕ)
    (g : Going s₀ input start before at image bytes out from done total) where
  abbrev here : State
  here = dock_of image bytes

  -- behind the last line
  module _ (past : length input ≤ from) where
    no_lines : lines (drop from input) ≡ []
    no_lines = no_line input from past

    pub ends : Appends (rest_of s₀ input start 0) before out at total
    ends =
        let none : rest_of here input from done ≡ [] = ap (answers (done + 1) here) no_lines ∙ answers_none (done + 1) here in
        g.rest out total (append_as [] (rest_of here input from done) out out total total (sym none) (append_none out total))

    pub end_holds : LeavesDock (end_of s₀ input start) image bytes
    end_holds =
        let same : SameDock here (end_of s₀ input start) =
        same_trans here (end_of here input from) (end_of s₀ input start) (same_of _ _ (sym (ap (after_lines here) no_lines ∙ after_none here))) g.left in
        record { tables = g.encoded ∙ ap encode same.tables; decoded = same.tables; store = same.store }

  -- one line more
  module _ (k : ℕ) (told : k ≡ up_to line_end (take (length input - from) (drop from input))) (more : from < length input) where
    -- the line that begins at `from`, as the code lends it, and where it ends
    abbrev pub line_here : List ℕ
    line_here = line_at input from k told more

    pub line_inside : from + k ≤ length input
    line_inside = next_line.line_inside input from k told more

    first_here : lines (drop from input) ≡ line_here ∷ lines (drop (from + k + 1) input)
    first_here = line_first input from k told more

    -- its answer, then those of the lines behind it, from the state that it leaves
    pub answers_here : rest_of here input from done ≡ answer_to (done + 1) here line_here ++ rest_of (left_by_line here line_here) input (from + k + 1) (done + 1)
    answers_here = ap (answers (done + 1) here) first_here ∙ answers_more (done + 1) here line_here (lines (drop (from + k + 1) input))

    pub line_bound : Countable total (answer_to (done + 1) here line_here)
    line_bound =
        let later = rest_of (left_by_line here line_here) input (from + k + 1) (done + 1) in
        omega (arith, g.bound, ap length answers_here ∙ length-append (answer_to (done + 1) here line_here) later)

    pub next : (image' bytes' out' : List ℕ) (total' : ℕ) → Appends (answer_to (done + 1) here line_here) out out' total total'
        → LeavesDock (left_by_line here line_here) image' bytes' → length bytes' ≡ 16384
        → Going s₀ input start before at image' bytes' out' (from + k + 1) (done + 1) total'
    next image' bytes' out' total' put h long =
        let text = answer_to (done + 1) here line_here in
        let there = dock_of image' bytes' in
        let same : SameDock (left_by_line here line_here) there = record { tables = sym h.decoded; store = sym h.store } in
        let behind = lines (drop (from + k + 1) input) in
        let later = rest_of there input (from + k + 1) (done + 1) in
        let whole : rest_of here input from done ≡ text ++ later
        = answers_here ∙ ap (λ (l : List ℕ). text ++ l) (same_answers (left_by_line here line_here) there same behind (done + 1 + 1)) in
        let after_here : end_of here input from ≡ after_lines (left_by_line here line_here) behind
        = ap (after_lines here) first_here ∙ after_more here line_here behind in
        let whole_long : length (rest_of here input from done) ≡ length text + length later = ap length whole ∙ length-append text later in
        record {
          inside = omega (arith, line_inside);
          counted = omega (arith, g.counted);
          ready = still_ready image bytes line_here image' bytes' g.ready h long;
          encoded = h.tables ∙ ap encode (sym h.decoded);
          kept = put.kept ∙ g.kept;
          bound = omega (arith, g.bound, put.total, whole_long);
          rest = λ after r a.
              g.rest after r
              (append_as (text ++ later) (rest_of here input from done) out after total r (sym whole)
              (append_both text later out out' after total total' r put a));
          left = same_trans (end_of there input (from + k + 1)) (end_of here input from) (end_of s₀ input start)
              (same_sym _ _ (same_trans _ _ _ (same_of _ _ after_here) (same_after (left_by_line here line_here) there same behind))) g.left;
        }
