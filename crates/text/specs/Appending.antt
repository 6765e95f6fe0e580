-- What it is to put a text behind the `at` bytes of an output that stand: it goes there where it has room, and the length with it is
-- answered in any case. So a text that is written piece by piece can be measured first, by appending it to an output of no bytes.
use Rattle.std.specs.Prelude.{ℕ, ◌+◌, ◌≤◌, ◌≡◌, cond, List, ◌++◌, leb, length, take, drop}

pub record Appends (text before after : List ℕ) (at answer : ℕ) : Type 0 where
  pub total : answer ≡ at + length text
  pub kept : length after ≡ length before
  pub output : at + length text ≤ length before → after ≡ take at before ++ text ++ drop (at + length text) before

-- ---- lengths in code
-- the highest that a `usize` counts to; no slice is so long
abbrev pub highest_count : ℕ
highest_count = 18446744073709551615

-- the length with the text can be counted
abbrev pub Countable : ℕ → List ℕ → Type 0
Countable at text = at + length text ≤ highest_count

-- a length as the code counts it: up to the highest
unfoldable pub counted : ℕ → ℕ
counted n = cond (leb n highest_count) n highest_count
