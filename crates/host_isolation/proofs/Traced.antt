-- A sequence of requests as a host sees it: each request's exchange, of all programs. Its laws: cut in two, the group's part, the edge; and
-- that only tables and store of the state count from which it begins.
use mathlib.Core.Path.{◌≡◌, refl, ap}
use mathlib.Core.Bool.{Bool, not, ◌&&◌}
use mathlib.Core.List.{List, [], ◌∷◌, ◌++◌, map}
use Rattle.lists.specs.Lists.{all}
use Rattle.lists.proofs.Tests.{Case, pass, fail, case}
use Rattle.machine.specs.State.{State, Outcome}
use Rattle.machine.specs.Step.{step}
use Rattle.machine.specs.Sequence as machine
use Rattle.machine.specs.Sequence.{Sent, enter, after, Group, from_group, crosses, group_exchanges}
use Rattle.machine.specs.Isolation as claim
use Rattle.machine.specs.Isolation.{ForEvery, no_left, no_right, both}
use Rattle.machine.specs.Numbers.{answer_numbers}
use Rattle.isolation.proofs.TwoSequences.{head_both, tail_both}
use Rattle.host_isolation.specs.Calls.{Exchange, none_crosses, of_group, Given, Agree}

abbrev pub seen_by : Sent → Outcome → Exchange
seen_by i o = record { request = i.request; sheet = i.sheet; answer = answer_numbers o.answer; left = o.state.sheet }

unfoldable pub traced : State → List Sent → List Exchange
traced s [] = []
traced s (i ∷ is) = let o = step (enter s i) i.request in seen_by i o ∷ traced o.state is

-- ---- one sequence after another
pub traced_append : (s : State) (is js : List Sent) → traced s (is ++ js) ≡ traced s is ++ traced (after s is) js
unfolding traced after
traced_append s [] js = refl
traced_append s (i ∷ is) js =
    let o = step (enter s i) i.request in
    ap (λ (l : List Exchange). seen_by i o ∷ l) (traced_append o.state is js)

-- ---- the sheet buffer of the state does not count
module _ (s u : State) (tables : s.tables ≡ u.tables) (store : s.store ≡ u.store) where
  entered : (i : Sent) → enter s i ≡ enter u i
  unfolding enter
  entered i j = record { tables = tables j; store = store j; sheet = i.sheet }

  pub traced_same : (is : List Sent) → traced s is ≡ traced u is
  unfolding traced
  traced_same [] = refl
  traced_same (i ∷ is) = λ j. seen_by i (step (entered i j) i.request) ∷ traced (step (entered i j) i.request).state is

  pub after_tables : (is : List Sent) → (after s is).tables ≡ (after u is).tables
  unfolding after
  after_tables [] = tables
  after_tables (i ∷ is) = λ j. (after (step (entered i j) i.request).state is).tables

  pub after_store : (is : List Sent) → (after s is).store ≡ (after u is).store
  unfolding after
  after_store [] = store
  after_store (i ∷ is) = λ j. (after (step (entered i j) i.request).state is).store

-- ---- the machine's exchanges
abbrev pub as_seen : machine.Exchange → Exchange
as_seen x = record { request = x.sent.request; sheet = x.sent.sheet; answer = answer_numbers x.answer; left = x.left }

module _ (g : Group) where
  pub edge_seen : (s : State) (is : List Sent) → none_crosses g (traced s is) ≡ machine.none_crosses g is
  unfolding none_crosses machine.none_crosses all traced
  edge_seen s [] = refl
  edge_seen s (i ∷ is) =
      ap (λ (b : Bool). not (crosses g i.request) && b) (edge_seen (step (enter s i) i.request).state is)

  seen_here : (s : State) (i : Sent) (is : List Sent) → let o = step (enter s i) i.request in
      of_group g (traced o.state is) ≡ map as_seen (group_exchanges g o.state is) → Case (from_group g i.request)
      → of_group g (traced s (i ∷ is)) ≡ map as_seen (group_exchanges g s (i ∷ is))
  unfolding of_group traced group_exchanges machine.exchange
  seen_here s i is later (pass e) = rw e (ap (λ (l : List Exchange). seen_by i (step (enter s i) i.request) ∷ l) later)
  seen_here s i is later (fail e) = rw e later

  pub group_seen : (s : State) (is : List Sent) → of_group g (traced s is) ≡ map as_seen (group_exchanges g s is)
  unfolding of_group traced group_exchanges
  group_seen s [] = refl
  group_seen s (i ∷ is) = seen_here s i is (group_seen (step (enter s i) i.request).state is) (case (from_group g i.request))

-- ---- what is given and what is claimed of them
given_one : (x y : machine.Exchange) → Given (as_seen x) (as_seen y) → claim.Given x y
unfolding answer_numbers
given_one x y h = record { numbers = h.numbers; written = h.written; eleven = h.eleven }

pub given_seen : (xs ys : List machine.Exchange) → ForEvery Given (map as_seen xs) (map as_seen ys) → ForEvery claim.Given xs ys
given_seen [] ys h = no_left
given_seen (x ∷ xs) [] h = no_right
given_seen (x ∷ xs) (y ∷ ys) h = both (given_one x y (head_both h)) (given_seen xs ys (tail_both h))

agree_one : (x y : machine.Exchange) → claim.Agree x y → Agree (as_seen x) (as_seen y)
unfolding answer_numbers
agree_one x y h = record { answers = ap answer_numbers h.answers; read = h.read }

pub agree_seen : (xs ys : List machine.Exchange) → ForEvery claim.Agree xs ys → ForEvery Agree (map as_seen xs) (map as_seen ys)
agree_seen [] ys h = no_left
agree_seen (x ∷ xs) [] h = no_right
agree_seen (x ∷ xs) (y ∷ ys) h = both (agree_one x y (head_both h)) (agree_seen xs ys (tail_both h))
