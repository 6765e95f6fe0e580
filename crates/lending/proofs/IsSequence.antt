-- A batch is a sequence of requests as isolation speaks of it. Let `sent` be the requests with their sheet buffers: the i-th of a batch
-- meets what those before it leave, and its outcome is the step's there.
use Prim.Native.Nat.{ℕ, zero, suc, ◌<◌}
use native.Mathlib.Omega.{arith}
use mathlib.Core.Path.{◌≡◌, refl, sym, ◌∙◌}
use mathlib.Core.List.{List, [], ◌∷◌, ◌++◌}
use Rattle.lists.specs.Parts.{joined}
use Rattle.machine.specs.State.{State, sheet_at}
use Rattle.machine.specs.Step.{step}
use Rattle.machine.specs.Sequence.{Sent, enter, after}
use Rattle.lending.specs.Numbers.{request_at}
use Rattle.lending.specs.Sequence.{Start, met, outcome_at}

-- one sequence after another
pub after_append : (s : State) (is js : List Sent) → after s (is ++ js) ≡ after (after s is) js
unfolding after
after_append s [] js = refl
after_append s (i ∷ is) js = after_append (step (enter s i) i.request).state is js

module _ (b : Start) (n : ℕ) (sent : ℕ → Sent) (requests : (i : ℕ) → i < n → (sent i).request ≡ request_at i b.requests)
    (sheets : (i : ℕ) → i < n → (sent i).sheet ≡ sheet_at i b.sheets) where
  -- the first i of them
  abbrev pub first_sent : ℕ → List Sent
  first_sent i = joined i (λ j. sent j ∷ [])

  same_sheet : (s : State) (i : ℕ) → i < n
      → record { tables = s.tables; store = s.store; sheet = sheet_at i b.sheets } ≡ enter s (sent i)
  unfolding enter
  same_sheet s i h j = record { tables = s.tables; store = s.store; sheet = sym (sheets i h) j }

  pub meets : (i : ℕ) → i < n → met b i ≡ enter (after (met b 0) (first_sent i)) (sent i)
  unfolding met after joined
  meets zero h = same_sheet (met b 0) 0 h
  meets (suc i) h =
      let low : i < n = omega arith in
      let left : (step (met b i) (request_at i b.requests)).state ≡ after (met b 0) (first_sent i ++ sent i ∷ []) =
      (λ j. (step (meets i low j) (sym (requests i low) j)).state) ∙ sym (after_append (met b 0) (first_sent i) (sent i ∷ [])) in
      same_sheet (step (met b i) (request_at i b.requests)).state (suc i) h ∙ λ j. enter (left j) (sent (suc i))

  pub outcome_in_sequence : (i : ℕ) → i < n → outcome_at b i ≡ step (enter (after (met b 0) (first_sent i)) (sent i)) (sent i).request
  unfolding outcome_at
  outcome_in_sequence i h j = step (meets i h j) (sym (requests i h) j)
