-- The definitions on lists that the rules use: the first element that passes a test, all, some, those that pass, no two, a change at
-- every place, places filled, elements by rising keys, the least number that passes, how many pass, sums. A `let` is computed only where it is
-- asked for: so a search stops where it succeeds.
use Rattle.std.specs.Prelude.{ℕ, zero, suc, ◌+◌, Bool, true, false, not, ◌&&◌, ◌||◌, cond, List, [], ◌∷◌, leb}
use Rattle.lists.specs.Tests.{implies}

module _ {A : Type 0} where
  -- the first place whose element passes the test; the length where there is none
  unfoldable pub first_index : (A → Bool) → List A → ℕ
  first_index test [] = 0
  first_index test (x ∷ xs) = let later = suc (first_index test xs) in cond (test x) 0 later

  -- every element passes
  unfoldable pub all : (A → Bool) → List A → Bool
  all test [] = true
  all test (x ∷ xs) = let rest = all test xs in test x && rest

  -- some element passes
  unfoldable pub some : (A → Bool) → List A → Bool
  some test [] = false
  some test (x ∷ xs) = let rest = some test xs in test x || rest

  -- the elements that pass, in their order
  unfoldable pub keep : (A → Bool) → List A → List A
  keep test [] = []
  keep test (x ∷ xs) = let rest = keep test xs in cond (test x) (x ∷ rest) rest

  -- how many elements pass
  unfoldable pub count_of : (A → Bool) → List A → ℕ
  count_of test [] = 0
  count_of test (x ∷ xs) = let rest = count_of test xs in cond (test x) (suc rest) rest

  -- the sum of a number of each
  unfoldable pub total : (A → ℕ) → List A → ℕ
  total f [] = 0
  total f (x ∷ xs) = f x + total f xs

  -- no two of the elements that count, in different places, are alike
  unfoldable pub no_two : (A → Bool) → (A → A → Bool) → List A → Bool
  no_two counts alike [] = true
  no_two counts alike (x ∷ xs) =
      let alone = not (some (λ y. counts y && alike x y) xs) in
      let rest = no_two counts alike xs in
      implies (counts x) alone && rest

  -- every element passes; the test sees the place too, counted from i
  unfoldable pub all_at : (ℕ → A → Bool) → ℕ → List A → Bool
  all_at test i [] = true
  all_at test i (x ∷ xs) = let rest = all_at test (suc i) xs in test i x && rest

  -- some element passes; the test sees the place too, counted from i
  unfoldable pub some_at : (ℕ → A → Bool) → ℕ → List A → Bool
  some_at test i [] = false
  some_at test i (x ∷ xs) = let rest = some_at test (suc i) xs in test i x || rest

  -- every element changed; the change sees the place too, counted from i
  unfoldable pub map_at : (ℕ → A → A) → ℕ → List A → List A
  map_at change i [] = []
  map_at change i (x ∷ xs) = change i x ∷ map_at change (suc i) xs

  -- the first n elements, with `spare` where there are not so many
  unfoldable pub filled : ℕ → A → List A → List A
  filled zero spare xs = []
  filled (suc n) spare [] = spare ∷ filled n spare []
  filled (suc n) spare (x ∷ xs) = x ∷ filled n spare xs

  -- by rising keys: each element put in front of the first whose key is not below its own
  unfoldable pub put_into : (A → ℕ) → A → List A → List A
  put_into key x [] = x ∷ []
  put_into key x (y ∷ ys) = let later = put_into key x ys in cond (leb (key x) (key y)) (x ∷ y ∷ ys) (y ∷ later)

  unfoldable pub sorted_by : (A → ℕ) → List A → List A
  sorted_by key [] = []
  sorted_by key (x ∷ xs) = put_into key x (sorted_by key xs)

-- the least number that passes, from `start` on; `start + steps` where none of the first `steps` numbers does
unfoldable pub least : (ℕ → Bool) → ℕ → ℕ → ℕ
least test zero start = start
least test (suc steps) start = let later = least test steps (suc start) in cond (test start) start later

-- how many of the numbers below n pass
unfoldable pub count_below : ℕ → (ℕ → Bool) → ℕ
count_below zero test = 0
count_below (suc n) test = count_below n test + cond (test n) 1 0
