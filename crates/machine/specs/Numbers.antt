-- A request and an answer as numbers in a row, as texts and hosts have them: how many there are, and which is which.
use Rattle.std.specs.Prelude.{ℕ, List, [], ◌∷◌, get_or}
use Rattle.machine.specs.declared.{Request.Request, Answer.Answer}

-- "Nine whole numbers ..: pad, program, op, ticket, to-pad, to-program, first, count, rights"
abbrev pub request_width : ℕ
request_width = 9

abbrev pub request_of : List ℕ → Request
request_of numbers = record {
  pad = get_or numbers 0 0;
  program = get_or numbers 1 0;
  op = get_or numbers 2 0;
  ticket = get_or numbers 3 0;
  topad = get_or numbers 4 0;
  toprogram = get_or numbers 5 0;
  first = get_or numbers 6 0;
  count = get_or numbers 7 0;
  rights = get_or numbers 8 0;
}

-- "The answer is: result (0 or a refusal), the asker's new number, the recipient's new number"
abbrev pub answer_width : ℕ
answer_width = 3

unfoldable pub answer_numbers : Answer → List ℕ
answer_numbers a = a.result ∷ a.ticket ∷ a.recipient ∷ []
