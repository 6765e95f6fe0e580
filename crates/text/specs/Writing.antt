-- What a number and a line of numbers are as text, and what it is to write a text into a lent output.
use Rattle.std.specs.Prelude.{ℕ, zero, suc, ◌+◌, ◌/◌, ◌%◌, ◌≡◌, cond, List, [], ◌∷◌, ◌++◌, leb, ltb, length, drop}
use Rattle.text.specs.Bytes.{space, line_end}

-- ---- numbers up to 65,535 in decimal
-- the last `count` digits
unfoldable pub digits : ℕ → ℕ → List ℕ
digits zero n = []
digits (suc count) n = digits count (n / 10) ++ (48 + n % 10) ∷ []

-- how many digits the number has
unfoldable pub places : ℕ → ℕ
places n = cond (ltb n 10) 1 (cond (ltb n 100) 2 (cond (ltb n 1000) 3 (cond (ltb n 10000) 4 5)))

unfoldable pub decimal : ℕ → List ℕ
decimal n = digits (places n) n

-- ---- lines
-- what stands behind a value, by the values that follow: "one space between", and "each line ended by byte 10"
unfoldable pub behind : List ℕ → ℕ
behind [] = line_end
behind (v ∷ vs) = space

unfoldable pub values_line : List ℕ → List ℕ
values_line [] = []
values_line (v ∷ vs) = decimal v ++ behind vs ∷ values_line vs

-- ---- "One written into a lent output changes only its own bytes; the answer carries its length, 0 with a refusal, which leaves the
-- output unchanged." A text is refused where the output is too short for it.
unfoldable pub written : List ℕ → List ℕ → List ℕ
written text out = cond (leb (length text) (length out)) (text ++ drop (length text) out) out

unfoldable pub written_length : List ℕ → List ℕ → ℕ
written_length text out = cond (leb (length text) (length out)) (length text) 0

pub record Writes (text before after : List ℕ) (answer : ℕ) : Type 0 where
  pub output : after ≡ written text before
  pub size : answer ≡ written_length text before
