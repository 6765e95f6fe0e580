-- The chart is containment bit by bit: computed at the 64 pairs below 8, and carried to all numbers by their three low bits. The code has
-- it as one word, whose 64 bits are the chart's answers.
use Prim.Native.Nat.{ℕ, ◌+◌, ◌*◌, ◌/◌, ◌%◌, ◌^◌, ◌<◌}
use native.Mathlib.Omega.{arith}
use mathlib.Core.Path.{◌≡◌, refl, ◌∙◌}
use mathlib.Core.Bool.{Bool, true}
use mathlib.Core.List.{List, [], ◌∷◌}
use lib.Dec.{eqb}
use lib.ListN.{get_or}
use Rattle.lists.specs.Tests.{implies}
use Rattle.lists.specs.Parts.{joined}
use Rattle.lists.proofs.Below.{agree_below, agree_at}
use Rattle.rights.specs.Rules.{rights_of, within}
use Rattle.rights.specs.Chart.{chart, charted, ChartSquare, ChartIsRule}

pub chart_square : ChartSquare
unfolding chart
chart_square = refl

-- ---- the chart is the rule
abbrev ruled : ℕ → ℕ → Bool
ruled a h = within (rights_of a) (rights_of h)

all_64 : agree_below 8 8 charted ruled ≡ true
unfolding charted chart within implies
all_64 = refl

pub chart_is_rule : ChartIsRule
chart_is_rule = agree_at 8 8 charted ruled all_64

-- the bits of a number are those of its three low bits
half : (a : ℕ) → a % 8 / 2 % 2 ≡ a / 2 % 2
half a =
    let e : a / 2 ≡ 2 * (2 * (a / 8)) + a % 8 / 2 = omega arith in
    omega arith

quarter : (a : ℕ) → a % 8 / 4 % 2 ≡ a / 4 % 2
quarter a =
    let e : a / 4 ≡ 2 * (a / 8) + a % 8 / 4 = omega arith in
    omega arith

low : (a h : ℕ) → within (rights_of (a % 8)) (rights_of (h % 8)) ≡ within (rights_of a) (rights_of h)
unfolding within
low a h =
    let a0 : a % 8 % 2 ≡ a % 2 = omega arith in
    let h0 : h % 8 % 2 ≡ h % 2 = omega arith in
    rw (a0, h0, half a, half h, quarter a, quarter h)

pub charted_is_within : (a h : ℕ) → charted (a % 8) (h % 8) ≡ within (rights_of a) (rights_of h)
charted_is_within a h = chart_is_rule (a % 8) (h % 8) (omega arith) (omega arith) ∙ low a h

-- ---- the code's word is the chart
-- the number with these binary digits, the first the lowest
unfoldable binary : List ℕ → ℕ
binary [] = 0
binary (x ∷ xs) = x + 2 * binary xs

-- the chart's answers, row behind row
unfoldable pub word : ℕ
unfolding binary
word = binary (joined 8 (λ asked. get_or chart asked []))

-- the bit at the pair's place
abbrev pub in_word : ℕ → ℕ → Bool
in_word a h = eqb (word / 2 ^ (8 * a + h) % 2) 1

all_in_word : agree_below 8 8 in_word charted ≡ true
unfolding word binary joined charted chart
all_in_word = refl

pub word_is_chart : (a h : ℕ) → a < 8 → h < 8 → in_word a h ≡ charted a h
word_is_chart = agree_at 8 8 in_word charted all_in_word
