-- A line of the trace: what it asks for, and how it is answered.
use Rattle.std.specs.Prelude.{ℕ, ◌+◌, Bool, ◌&&◌, cond, List, [], ◌∷◌, leb, eqb, get_or, replicate}
use Rattle.std.proofs.lemmas.List.{length-replicate}
use Rattle.machine.specs.declared.{Request.Request, Answer.Answer}
use Rattle.machine.specs.State.{Outcome, answer_of}
use Rattle.machine.specs.Numbers.{request_width, request_of}
use Rattle.machine.specs.Sequence.{Sent}
use Rattle.text.specs.Reading.{has_values, values_of}
use Rattle.text.specs.Writing.{values_line}

-- ---- a line of the input: the request's numbers and the fill, in the order of the names
abbrev pub input_columns : ℕ
input_columns = request_width + 1

abbrev pub fill_of : List ℕ → ℕ
fill_of values = get_or values request_width 0

-- "Fill is 0 to 255: a write's 64 bytes; 0 for other ops; any other fill is another form."
unfoldable pub fill_ok : ℕ → ℕ → Bool
fill_ok op fill = cond (eqb op 6) (leb fill 255) (eqb fill 0)

-- a value for each name, and a fill that the op may have
unfoldable pub in_form : List ℕ → Bool
in_form line = let values = values_of line in has_values input_columns line && fill_ok (request_of values).op (fill_of values)

-- the request of a line in form, with its sheet buffer
unfoldable pub sent_by : List ℕ → Sent
sent_by line =
    let values = values_of line in
    record { request = request_of values; sheet = replicate 64 (fill_of values); whole = length-replicate 64 (fill_of values) }

-- ---- a line of the output: "the line's number from 1, the answer's three numbers, and the first byte of an accepted read or 0"
abbrev pub output_columns : ℕ
output_columns = 5

unfoldable pub answer_line : ℕ → Answer → ℕ → List ℕ
answer_line number a byte = values_line (number ∷ a.result ∷ a.ticket ∷ a.recipient ∷ byte ∷ [])

unfoldable pub first_byte : Request → Outcome → ℕ
first_byte r o = let byte = get_or o.state.sheet 0 0 in cond (eqb r.op 5 && eqb o.answer.result 0) byte 0

-- "Result 15: a line of another form"
unfoldable pub other_line : ℕ → List ℕ
other_line number = answer_line number (answer_of 15 0 0) 0
