-- The induction over two sequences, for any relation of states that an outsider's step keeps on either side and the group's step keeps on
-- both. The left sequence is followed to the group's next request, then the right one, and the two requests are served together.
use mathlib.Core.Path.{◌≡◌}
use mathlib.Core.Bool.{true, false, not}
use mathlib.Core.List.{List, [], ◌∷◌}
use borrow.Author.Tests.{not-true}
use Rattle.lists.specs.Lists.{all}
use Rattle.lists.proofs.Tests.{Case, pass, fail, case, and_l, and_r}
use Rattle.machine.specs.State.{State, Outcome}
use Rattle.machine.specs.Step.{step}
use Rattle.machine.specs.Sequence.{Sent, enter, Group, from_group, crosses, none_crosses, Exchange, exchange, group_exchanges}
use Rattle.machine.specs.Isolation.{ForEvery, no_left, no_right, both, Given, Agree}

-- one request of a sequence, and what the group sees of it
abbrev pub served : State → Sent → Outcome
served s i = step (enter s i) i.request

abbrev pub seen : State → Sent → Exchange
seen s i = exchange i (served s i)

pub head_both : {A : Type 0} {P : A → A → Type 0} {x y : A} {xs ys : List A} → ForEvery P (x ∷ xs) (y ∷ ys) → P x y
head_both (both h t) = h

pub tail_both : {A : Type 0} {P : A → A → Type 0} {x y : A} {xs ys : List A} → ForEvery P (x ∷ xs) (y ∷ ys) → ForEvery P xs ys
tail_both (both h t) = t

module _ (g : Group) (R : State → State → Type 0)
    (left : (s u : State) (i : Sent) → R s u → from_group g i.request ≡ false → crosses g i.request ≡ false → R (served s i).state u)
    (right : (s u : State) (i : Sent) → R s u → from_group g i.request ≡ false → crosses g i.request ≡ false → R s (served u i).state)
    (group : (s u : State) (i j : Sent) → R s u → from_group g i.request ≡ true → crosses g i.request ≡ false
    → Given (seen s i) (seen u j) → Agree (seen s i) (seen u j) × R (served s i).state (served u j).state) where
  exchanges_in : (s : State) (i : Sent) (is : List Sent) → from_group g i.request ≡ true
      → group_exchanges g s (i ∷ is) ≡ seen s i ∷ group_exchanges g (served s i).state is
  unfolding group_exchanges
  exchanges_in s i is e = rw e

  exchanges_out : (s : State) (i : Sent) (is : List Sent) → from_group g i.request ≡ false
      → group_exchanges g s (i ∷ is) ≡ group_exchanges g (served s i).state is
  unfolding group_exchanges
  exchanges_out s i is e = rw e

  first_stays : (i : Sent) (is : List Sent) → none_crosses g (i ∷ is) ≡ true → crosses g i.request ≡ false
  unfolding none_crosses all
  first_stays i is e = not-true (crosses g i.request) (and_l (not (crosses g i.request)) _ e)

  rest_stays : (i : Sent) (is : List Sent) → none_crosses g (i ∷ is) ≡ true → none_crosses g is ≡ true
  unfolding none_crosses all
  rest_stays i is e = and_r (not (crosses g i.request)) _ e

  -- the claim for two sequences from related states
  unfoldable pub Claim : List Sent → List Sent → Type 0
  Claim is js =
      (s u : State) → R s u → none_crosses g is ≡ true → none_crosses g js ≡ true
      → ForEvery Given (group_exchanges g s is) (group_exchanges g u js) → ForEvery Agree (group_exchanges g s is) (group_exchanges g u js)

  -- the left has a group's request next; go along the right to the group's next
  along : (i : Sent) (is : List Sent) → from_group g i.request ≡ true → ((js : List Sent) → Claim is js) → (js : List Sent) → Claim (i ∷ is) js
  unfolding Claim group_exchanges
  along i is e ih [] s u rel c d a = no_right
  along i is e ih (j ∷ js) s u rel c d a = go (case (from_group g j.request)) (along i is e ih js)
    where
      go : Case (from_group g j.request) → Claim (i ∷ is) js → ForEvery Agree (group_exchanges g s (i ∷ is)) (group_exchanges g u (j ∷ js))
      go (fail k) rec =
          rw (exchanges_out u j js k)
          (rec s (served u j).state (right s u j rel k (first_stays j js d)) c (rest_stays j js d) (rw (exchanges_out u j js k) at a))
      go (pass k) rec =
          let a' : ForEvery Given (seen s i ∷ group_exchanges g (served s i).state is) (seen u j ∷ group_exchanges g (served u j).state js)
          = rw (exchanges_in s i is e, exchanges_in u j js k) at a in
          let w = group s u i j rel e (first_stays i is c) (head_both a') in
          rw (exchanges_in s i is e, exchanges_in u j js k)
          (both w.0 (ih js (served s i).state (served u j).state w.1 (rest_stays i is c) (rest_stays j js d) (tail_both a')))

  pub two_sequences : (is js : List Sent) → Claim is js
  unfolding Claim group_exchanges
  two_sequences [] js s u rel c d a = no_left
  two_sequences (i ∷ is) js s u rel c d a = go (case (from_group g i.request)) (two_sequences is)
    where
      go : Case (from_group g i.request) → ((ks : List Sent) → Claim is ks) → ForEvery Agree (group_exchanges g s (i ∷ is)) (group_exchanges g u js)
      go (pass e) ih = along i is e ih js s u rel c d a
      go (fail e) ih =
          rw (exchanges_out s i is e)
          (ih js (served s i).state u (left s u i rel e (first_stays i is c)) (rest_stays i is c) d (rw (exchanges_out s i is e) at a))
