-- How cases are written. A line is as the trace program reads and writes it: pad, program, op, ticket, to-pad, to-program, first,
-- count, rights, fill; then result, ticket, recipient, and the first byte of an accepted read or 0.
use Prim.Native.Nat.{ℕ}
use mathlib.Core.Bool.{Bool, true, ◌&&◌, cond}
use mathlib.Core.List.{List, [], ◌∷◌}
use lib.Dec.{eqb}
use lib.ListN.{get_or, replicate}
use Rattle.machine.specs.declared.{Request.Request, Answer.Answer}
use Rattle.machine.specs.State.{State, Outcome, answer_of}
use Rattle.machine.specs.Step.{step}

pub record Expected : Type 0 where
  pub answer : Answer
  pub byte : ℕ

pub record Line : Type 0 where
  pub request : Request
  pub fill : ℕ
  pub expected : Expected

abbrev pub gives : ℕ → ℕ → ℕ → ℕ → Expected
gives result ticket recipient byte = record { answer = answer_of result ticket recipient; byte = byte }

abbrev pub request : ℕ → ℕ → ℕ → ℕ → ℕ → ℕ → ℕ → ℕ → ℕ → Request
request pad program op ticket topad toprogram first count rights = record {
  pad = pad;
  program = program;
  op = op;
  ticket = ticket;
  topad = topad;
  toprogram = toprogram;
  first = first;
  count = count;
  rights = rights;
}

abbrev pub line : ℕ → ℕ → ℕ → ℕ → ℕ → ℕ → ℕ → ℕ → ℕ → ℕ → Expected → Line
line pad program op ticket topad toprogram first count rights fill expected =
    record { request = request pad program op ticket topad toprogram first count rights; fill = fill; expected = expected }

-- ---- a case holds from a state: each line gets its answer and byte, and the next line meets what this one left
unfoldable pub served : State → Line → Outcome
served s l = step (record { tables = s.tables; store = s.store; sheet = replicate 64 l.fill }) l.request

unfoldable pub same_answer : Answer → Answer → Bool
same_answer a b = eqb a.result b.result && eqb a.ticket b.ticket && eqb a.recipient b.recipient

-- the first byte of an accepted read, or 0
unfoldable pub shown_byte : ℕ → Outcome → ℕ
shown_byte op o = cond (eqb op 5 && eqb o.answer.result 0) (get_or o.state.sheet 0 0) 0

unfoldable pub holds : State → List Line → Bool
holds s [] = true
holds s (l ∷ ls) =
    let o = served s l in
    let rest = holds o.state ls in
    same_answer o.answer l.expected.answer && eqb (shown_byte l.request.op o) l.expected.byte && rest

-- the state that the lines leave
unfoldable pub leaves : State → List Line → State
leaves s [] = s
leaves s (l ∷ ls) = leaves (served s l).state ls
