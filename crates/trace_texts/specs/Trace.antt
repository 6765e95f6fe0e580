-- "The trace program": the whole trace, from the bytes of the input to the bytes of the output.
use Rattle.std.specs.Prelude.{ℕ, ◌+◌, Bool, ◌&&◌, cond, List, [], ◌∷◌, ◌++◌, leb, length}
use Rattle.machine.specs.State.{State, Outcome}
use Rattle.machine.specs.Step.{step}
use Rattle.machine.specs.Empty.{empty_dock}
use Rattle.machine.specs.Sequence.{enter}
use Rattle.text.specs.Bytes.{bytes, line_end}
use Rattle.text.specs.Reading.{lines}
use Rattle.text.specs.Names.{named, behind_names}
use Rattle.trace_texts.specs.Line.{in_form, sent_by, answer_line, first_byte, other_line}

-- ---- sizes, in bytes
-- "at most 65,536 bytes"
abbrev pub longest_input : ℕ
longest_input = 65536

-- every trace has room in so many: the names, and at most fifteen for each byte of the input
abbrev pub trace_room : ℕ
trace_room = 983074

-- ---- names
unfoldable pub input_names : List ℕ
input_names = bytes "pad program op ticket topad toprogram first count rights fill"

unfoldable pub output_names : List ℕ
output_names = bytes "line result ticket recipient byte"

-- ---- one line, in the state s
-- what its request leads to
abbrev pub served_by : State → List ℕ → Outcome
served_by s line = step (enter s (sent_by line)) (sent_by line).request

-- how it is answered
unfoldable pub answer_to : ℕ → State → List ℕ → List ℕ
answer_to number s line =
    let o = served_by s line in
    let served = answer_line number o.answer (first_byte (sent_by line).request o) in
    let other = other_line number in
    cond (in_form line) served other

-- the state that it leaves; a line of another form "changes nothing"
unfoldable pub left_by_line : State → List ℕ → State
left_by_line s line = cond (in_form line) (served_by s line).state s

-- ---- lines, from the state s on
-- their answers, numbered from `number` on
unfoldable pub answers : ℕ → State → List (List ℕ) → List ℕ
answers number s [] = []
answers number s (line ∷ later) = answer_to number s line ++ answers (number + 1) (left_by_line s line) later

-- the state that they leave
unfoldable pub after_lines : State → List (List ℕ) → State
after_lines s [] = s
after_lines s (line ∷ later) = after_lines (left_by_line s line) later

-- ---- the whole
-- short enough, and "The first line must equal, byte for byte, the names below"
unfoldable pub input_ok : List ℕ → Bool
input_ok input = leb (length input) longest_input && named input_names (lines input)

-- the trace from the state s: "Too long an input, or wrong names: after the output's names one line `0 15 0 0 0`, and the end."
unfoldable pub trace_from : State → List ℕ → List ℕ
trace_from s input =
    let served = answers 1 s (behind_names (lines input)) in
    let refused = other_line 0 in
    output_names ++ line_end ∷ cond (input_ok input) served refused

-- the state that it leaves
unfoldable pub after_trace : State → List ℕ → State
after_trace s input = cond (input_ok input) (after_lines s (behind_names (lines input))) s

-- "It starts from an emptied dock."
abbrev pub trace : List ℕ → List ℕ
trace = trace_from empty_dock
