-- What a host sees of the requests that a trace makes: the output. Behind the names, a line in form is answered with its exchange's numbers and the
-- first byte that an accepted read left, a line of another form with 15.
use Rattle.std.specs.Prelude.{ℕ, ◌+◌, ◌≡◌, true, ◌&&◌, cond, List, [], ◌∷◌, ◌++◌, eqb, get_or}
use Rattle.text.specs.Bytes.{line_end}
use Rattle.text.specs.Reading.{lines}
use Rattle.text.specs.Names.{behind_names}
use Rattle.text.specs.Writing.{values_line}
use Rattle.trace_texts.specs.Line.{in_form, other_line}
use Rattle.trace_texts.specs.Trace.{output_names, input_ok}
use Rattle.lending.specs.Trace.{trace_of, trace_refusal}
use Rattle.host_isolation.specs.Calls.{Dock, tracing, lent_trace, Exchange, made}

unfoldable pub byte_of : Exchange → ℕ
byte_of x = let byte = get_or x.left 0 0 in cond (eqb x.request.op 5 && eqb (get_or x.answer 0 0) 0) byte 0

unfoldable pub line_of : ℕ → Exchange → List ℕ
line_of number x = values_line (number ∷ (x.answer ++ byte_of x ∷ []))

-- the output's lines, numbered from `number` on, from the input's lines and the exchanges of those in form
unfoldable pub lines_of : ℕ → List (List ℕ) → List Exchange → List ℕ
lines_of number [] xs = []
lines_of number (line ∷ later) [] = other_line number ++ lines_of (number + 1) later []
lines_of number (line ∷ later) (x ∷ xs) =
    let served = line_of number x ++ lines_of (number + 1) later xs in
    let other = other_line number ++ lines_of (number + 1) later (x ∷ xs) in
    cond (in_form line) served other

abbrev pub ToldByExchanges : Type 0
ToldByExchanges =
    (d : Dock) (input output : List ℕ) → trace_refusal (lent_trace d input output) ≡ 0 → input_ok input ≡ true
    → trace_of (lent_trace d input output) ≡ output_names ++ line_end ∷ lines_of 1 (behind_names (lines input)) (made d (tracing input output))
