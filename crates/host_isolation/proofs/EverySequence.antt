-- The claims for hosts are not weaker than demand 3: each sequence of requests is what a host gets that makes them one by one. So they hold of
-- hosts only because they hold of the machine, and each of their conditions counts as there (isolation/proofs/EachPremiseCounts).
use Prim.Native.Nat.{ℕ}
use mathlib.Core.Path.{◌≡◌, refl, ap, ◌∙◌}
use mathlib.Core.Bool.{true, false}
use mathlib.Core.List.{List, [], ◌∷◌, ◌++◌, map}
use lib.Dec.{eqb}
use lib.ListN.{get_or, replicate, length-replicate}
use borrow.Author.Tests.{eq-eqb}
use Rattle.lists.specs.Lists.{some}
use Rattle.tables.specs.Names.{empty_tables}
use Rattle.machine.specs.declared.Request.{Request}
use Rattle.machine.specs.State.{State}
use Rattle.machine.specs.Step.{step}
use Rattle.machine.specs.Empty.{empty_dock}
use Rattle.machine.specs.Sequence as machine
use Rattle.machine.specs.Sequence.{Sent, enter, Group, group_exchanges}
use Rattle.machine.specs.Isolation as claim
use Rattle.machine.specs.Isolation.{ForEvery, no_left, no_right, both, IsolatedFromEmpty}
use Rattle.machine.specs.Numbers.{answer_width, answer_numbers}
use Rattle.preservation.proofs.StepKeepsOrder.{step_keeps}
use Rattle.isolation.proofs.TwoSequences.{head_both, tail_both}
use Rattle.image.specs.Image.{encode}
use Rattle.image.proofs.RoundTrip.{encode_is_image, image_whole}
use Rattle.lending.specs.Host.{step_refusal, left_by}
use Rattle.saved.specs.Claims.{with_loaded, IsolatedFromLoaded}
use Rattle.host_isolation.specs.Calls.{Dock, WholeDock, Call, emptying, stepping, loading, lent, result, left, Exchange, made, begins, exchanges}
use Rattle.host_isolation.specs.Calls.{none_crosses, of_group, Given, Agree, Isolated, IsolatedForHosts, IsolatedFromLoadedForHosts}
use Rattle.host_isolation.proofs.Traced.{seen_by, traced, traced_same, as_seen, edge_seen, group_seen}
use Rattle.host_isolation.proofs.Stands.{Stands, emptied_stands, loaded_stands}
use Rattle.host_isolation.proofs.ForHosts.{none_loads}
use Rattle.host_isolation.proofs.OneCall.{the_sent, step_result, step_same, step_left}
use Rattle.host_isolation.proofs.StaysUsable.{step_0}

-- ---- a request as a call
unfoldable pub numbers_of : Request → List ℕ
numbers_of r =
    r.pad ∷ r.program ∷ r.op ∷ r.ticket ∷ r.topad ∷ r.toprogram ∷ r.first ∷ r.count ∷ r.rights ∷ []

abbrev pub call_for : Sent → Call
call_for i = stepping i.sheet (numbers_of i.request) (replicate answer_width 0)

pub calls_for : List Sent → List Call
calls_for [] = []
calls_for (i ∷ is) = call_for i ∷ calls_for is

pub none_begins : (is : List Sent) → some begins (calls_for is) ≡ false
unfolding some calls_for
none_begins [] = refl
none_begins (i ∷ is) = none_begins is

module _ (d : Dock) (s : State) (h : Stands d s) (i : Sent) where
  is_served : eqb (step_refusal (lent d i.sheet (numbers_of i.request) (replicate answer_width 0))) 0 ≡ true
  unfolding numbers_of
  is_served = eq-eqb _ 0 (step_0 d s h i.sheet (numbers_of i.request) (replicate answer_width 0) i.whole refl refl)

  pub one_made : made d (call_for i) ≡ seen_by i (step (enter s i) i.request) ∷ []
  unfolding traced the_sent enter numbers_of
  one_made = step_same d i.sheet (numbers_of i.request) (replicate answer_width 0) s h is_served

  pub one_result : result d (call_for i) ≡ (step (enter s i) i.request).answer.result
  unfolding result the_sent enter numbers_of
  one_result = step_result d i.sheet (numbers_of i.request) (replicate answer_width 0) s h is_served

  pub one_left : Stands (left d (call_for i)) (step (enter s i) i.request).state
  unfolding the_sent enter numbers_of left_by
  one_left =
      let l = step_left d i.sheet (numbers_of i.request) (replicate answer_width 0) s h is_served in
      record {
        image = λ j. (l j).image;
        store = λ j. (l j).store;
        ok = step_keeps (enter s i) i.request (record { tables = h.ok.tables; store = h.ok.store }) i.whole;
      }

-- ---- a sequence as calls
all_made : (is : List Sent) (d : Dock) (s : State) → Stands d s → exchanges d (calls_for is) ≡ traced s is
unfolding exchanges calls_for traced
all_made [] d s h = refl
all_made (i ∷ is) d s h =
    rw (none_begins is)
    (λ j. one_made d s h i j ++ all_made is (left d (call_for i)) (step (enter s i) i.request).state (one_left d s h i) j)

pub sequence_made : (d : Dock) → WholeDock d → (is : List Sent) → exchanges d (emptying ∷ calls_for is) ≡ traced empty_dock is
unfolding exchanges made
sequence_made d w is = rw (none_begins is) (all_made is (left d emptying) empty_dock (emptied_stands d w))

pub loaded_made : (d : Dock) → WholeDock d → (text sheet : List ℕ) (is : List Sent)
    → exchanges d (loading text ∷ calls_for is) ≡ traced (with_loaded text d.store sheet) is
unfolding exchanges made
loaded_made d w text sheet is =
    let from = with_loaded text d.store [] in
    rw (none_begins is)
    (all_made is (left d (loading text)) from (loaded_stands d w text d.store refl)
    ∙ traced_same from (with_loaded text d.store sheet) refl refl is)

-- ---- so demand 3 follows from the claims for hosts
given_one : (x y : machine.Exchange) → claim.Given x y → Given (as_seen x) (as_seen y)
unfolding answer_numbers
given_one x y h = record { numbers = h.numbers; written = h.written; eleven = h.eleven }

given_called : (xs ys : List machine.Exchange) → ForEvery claim.Given xs ys → ForEvery Given (map as_seen xs) (map as_seen ys)
given_called [] ys h = no_left
given_called (x ∷ xs) [] h = no_right
given_called (x ∷ xs) (y ∷ ys) h = both (given_one x y (head_both h)) (given_called xs ys (tail_both h))

agree_one : (x y : machine.Exchange) → Agree (as_seen x) (as_seen y) → claim.Agree x y
unfolding answer_numbers
agree_one x y h =
    let n = h.answers in
    record {
      answers = λ j. record { result = get_or (n j) 0 0; ticket = get_or (n j) 1 0; recipient = get_or (n j) 2 0 };
      read = h.read;
    }

agree_called : (xs ys : List machine.Exchange) → ForEvery Agree (map as_seen xs) (map as_seen ys) → ForEvery claim.Agree xs ys
agree_called [] ys h = no_left
agree_called (x ∷ xs) [] h = no_right
agree_called (x ∷ xs) (y ∷ ys) h = both (agree_one x y (head_both h)) (agree_called xs ys (tail_both h))

seen_is_enough : (g : Group) (s : State) (is js : List Sent) (xs ys : List Exchange) → xs ≡ traced s is → ys ≡ traced s js
    → Isolated g xs ys → claim.Isolated g s is js
seen_is_enough g s is js xs ys ours theirs isolated a b given =
    let mine : of_group g xs ≡ map as_seen (group_exchanges g s is) = ap (of_group g) ours ∙ group_seen g s is in
    let yours : of_group g ys ≡ map as_seen (group_exchanges g s js) = ap (of_group g) theirs ∙ group_seen g s js in
    agree_called (group_exchanges g s is) (group_exchanges g s js)
    (rw (mine, yours)
    at (isolated (ap (none_crosses g) ours ∙ edge_seen g s is ∙ a) (ap (none_crosses g) theirs ∙ edge_seen g s js ∙ b)
    (rw (mine, yours) (given_called (group_exchanges g s is) (group_exchanges g s js) given))))

-- some dock of the right lengths
pub any_dock : Dock
any_dock = record { image = encode empty_tables; store = replicate 16384 0 }

pub any_whole : WholeDock any_dock
unfolding any_dock
any_whole = record { image = image_whole (encode empty_tables) (encode_is_image empty_tables); store = length-replicate {A = ℕ} 16384 0 }

pub hosts_are_enough : IsolatedForHosts → IsolatedFromEmpty
hosts_are_enough hosts g is js =
    seen_is_enough g empty_dock is js (exchanges any_dock (emptying ∷ calls_for is)) (exchanges any_dock (emptying ∷ calls_for js))
    (sequence_made any_dock any_whole is) (sequence_made any_dock any_whole js)
    (hosts g any_dock any_dock (calls_for is) (calls_for js) (none_loads (calls_for is) (none_begins is)) (none_loads (calls_for js) (none_begins js)))

pub loaded_hosts_are_enough : IsolatedFromLoadedForHosts → IsolatedFromLoaded
unfolding any_dock
loaded_hosts_are_enough hosts g text store sheet long unlinked is js =
    let d : Dock = record { image = any_dock.image; store = store } in
    let whole : WholeDock d = record { image = any_whole.image; store = long } in
    seen_is_enough g (with_loaded text store sheet) is js (exchanges d (loading text ∷ calls_for is)) (exchanges d (loading text ∷ calls_for js))
    (loaded_made d whole text sheet is) (loaded_made d whole text sheet js)
    (hosts g text d d (calls_for is) (calls_for js) refl unlinked (none_begins is) (none_begins js))
