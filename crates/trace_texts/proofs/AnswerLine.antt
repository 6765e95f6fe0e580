-- How long a line of the output is: a value has at most five digits, and a byte stands behind it.
use Prim.Native.Nat.{ℕ, ◌+◌, ◌*◌, ◌≤◌}
use native.Mathlib.Omega.{arith}
use mathlib.Core.Path.{◌≡◌}
use lib.ListN.{length}
use Rattle.machine.specs.declared.Answer.{Answer}
use Rattle.machine.specs.State.{answer_of}
use Rattle.text.specs.Writing.{places}
use Rattle.text.proofs.WritingLaws.{places_most}
use Rattle.text.proofs.WritingSteps.{length_line, line_none}
use Rattle.trace_texts.specs.Line.{output_columns, answer_line, other_line}

module _ (number : ℕ) (a : Answer) (byte : ℕ) where
  answer_long : length (answer_line number a byte)
      ≡ places number + places a.result + places a.ticket + places a.recipient + places byte + 5
  unfolding answer_line
  answer_long = simp (length_line, line_none) (omega arith)

  pub answer_short : length (answer_line number a byte) ≤ 6 * output_columns
  answer_short =
      omega (
        arith,
        answer_long,
        places_most number,
        places_most a.result,
        places_most a.ticket,
        places_most a.recipient,
        places_most byte,
      )

pub other_short : (number : ℕ) → length (other_line number) ≤ 15
unfolding other_line places
other_short number = omega (arith, answer_long number (answer_of 15 0 0) 0, places_most number)
