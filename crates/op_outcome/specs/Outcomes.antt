-- What the code takes and leaves, as the machine's states and outcomes.
use Rattle.std.specs.Prelude.{ℕ, ◌≡◌, true, List}
use Rattle.tables.specs.declared.Tables.{Tables}
use Rattle.machine.specs.declared.Answer.{Answer}
use Rattle.machine.specs.State.{Outcome, answer_of, state_of}
use Rattle.image.specs.Image.{decode, is_image}

abbrev pub outcome_of : Answer → Tables → List ℕ → List ℕ → Outcome
outcome_of a t store sheet = record { answer = a; state = state_of t store sheet }

-- an answer with no new number
abbrev pub plainly : ℕ → Answer
plainly result = answer_of result 0 0

-- an outcome, in the answer and in what is left of the lent buffers, the tables as an image of them
pub record Serves (o : Outcome) (a : Answer) (image store sheet : List ℕ) : Type 0 where
  pub is : is_image image ≡ true
  pub same : outcome_of a (decode image) store sheet ≡ o
