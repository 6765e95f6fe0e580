-- Demand 3, whole: isolation of the step, from any common start, and from the emptied dock. An outsider's step is quiet, a group's step keeps
-- two states alike and gets one answer, and the induction over two sequences does the rest. From a dock in order the step never meets 13 or
-- 14, so what holds of `serve` holds of `step`.
use Prim.Native.Nat.{ℕ}
use mathlib.Core.Path.{◌≡◌, refl, sym, ap, ◌∙◌, subst}
use mathlib.Core.Bool.{true, false}
use lib.ListN.{length-replicate}
use Rattle.tables.specs.Names.{empty_tables}
use Rattle.tables.specs.Lookup.{lookup}
use Rattle.tables.proofs.KindLaws.{live_child, live_recall}
use Rattle.machine.specs.State.{State, Outcome}
use Rattle.machine.specs.Step.{serve}
use Rattle.machine.specs.Empty.{empty_dock}
use Rattle.machine.specs.Sequence.{Sent, enter, Group, from_group, crosses, exchange}
use Rattle.machine.specs.Isolation.{Given, Agree, IsolatedFromEmpty, Unlinked, CommonStart, IsolatedFromAny}
use Rattle.preservation.specs.InOrder.{DockOk}
use Rattle.preservation.proofs.EmptyDockInOrder.{no_ticket_live, no_entry_live, empty_invariant}
use Rattle.preservation.proofs.StepKeepsOrder.{step_is_serve}
use Rattle.preservation.proofs.TestMeansOrder.{test_means_order}
use Rattle.preservation.proofs.OrderPassesTest.{order_passes_test}
use Rattle.isolation.specs.Alike.{Parted, Alike}
use Rattle.isolation.proofs.Edge.{is_possible, is_in_group, on_one_side}
use Rattle.isolation.proofs.AlikeFacts.{alike_sym, quiet_left}
use Rattle.isolation.proofs.OutsiderIsQuiet.{outsider_is_quiet}
use Rattle.isolation.proofs.GroupStep.{Agreed, alike_sheets}
use Rattle.isolation.proofs.WholeStep.{group_step}
use Rattle.isolation.proofs.TwoSequences.{served, seen, two_sequences, Claim}

-- ---- the three steps that the induction asks for
module _ (g : Group) where
  -- from a dock in order a request of a sequence is served
  is_served : (s : State) (i : Sent) → DockOk s → served s i ≡ serve (enter s i) i.request
  unfolding enter
  is_served s i ok = step_is_serve (enter s i) i.request ok.tables ok.store i.whole

  left : (s u : State) (i : Sent) → Alike g s u → from_group g i.request ≡ false → crosses g i.request ≡ false → Alike g (served s i).state u
  unfolding enter
  left s u i al f c =
      let entered = alike_sheets g s u al i.sheet u.sheet in
      subst (λ (o : Outcome). Alike g o.state u) (sym (is_served s i al.here.dock))
      (quiet_left g (enter s i) (serve (enter s i) i.request).state u entered (outsider_is_quiet g (enter s i) entered.here i.whole i.request f c))

  right : (s u : State) (i : Sent) → Alike g s u → from_group g i.request ≡ false → crosses g i.request ≡ false → Alike g s (served u i).state
  right s u i al f c = alike_sym g (served u i).state s (left u s i (alike_sym g s u al) f c)

  -- the group's n-th requests, served together
  agreed : (s u : State) (i j : Sent) → Alike g s u → from_group g i.request ≡ true → crosses g i.request ≡ false → Given (seen s i) (seen u j)
      → Agreed g i.request (served s i) (served u j)
  unfolding enter exchange
  agreed s u i j al f c given =
      let p = is_possible g i.request f in
      let m = is_in_group g i.request f in
      let e : served s i ≡ serve (enter s i) i.request = is_served s i al.here.dock in
      let e₂ : served u j ≡ serve (enter u j) i.request
      = is_served u j al.there.dock ∙ ap (serve (enter u j)) (sym given.numbers) in
      rw (e, e₂)
      (group_step g (enter s i) (enter u j) (alike_sheets g s u al i.sheet j.sheet) i.request m
      (λ o x y. on_one_side g i.request c o p.pad p.program x y ∙ m) (rw (e, e₂) at given.eleven) p.pad p.program
      i.whole j.whole given.written)

  group : (s u : State) (i j : Sent) → Alike g s u → from_group g i.request ≡ true → crosses g i.request ≡ false
      → Given (seen s i) (seen u j) → Agree (seen s i) (seen u j) × Alike g (served s i).state (served u j).state
  unfolding exchange
  group s u i j al f c given =
      let a : Agreed g i.request (served s i) (served u j) = agreed s u i j al f c given in
      (record { answers = a.answer; read = a.sheet }, a.alike)

-- ---- the theorem
-- a state is alike to itself
alike_itself : (g : Group) (s : State) → Parted g s → Alike g s s
alike_itself g s parted = record {
  here = parted;
  there = parted;
  lasts = λ p q h. refl;
  tickets = λ p q h. refl;
  entries = λ n h. refl;
  offset = λ n h k l. refl;
  overlap = λ n m a b h k. ((λ e. e), (λ e. e));
  bytes = λ n a m. refl;
}

-- from any common start
pub isolation_from_any : IsolatedFromAny
unfolding Claim
isolation_from_any g s start is js = two_sequences g (Alike g) (left g) (right g) (group g) is js s s (alike_itself g s parted)
  where
    parted : Parted g s
    parted = record {
      dock = record {
        tables = test_means_order s.tables start.sized start.order;
        store = start.store;
      };
      unlinked = start.unlinked;
    }

-- ---- the emptied dock is a common start for every group
empty_unlinked : (g : Group) → Unlinked g empty_tables
empty_unlinked g = record {
  parent = λ n h. no_ticket_live n (live_child (lookup empty_tables n).kind h);
  target = λ n h. no_ticket_live n (live_recall (lookup empty_tables n).kind h);
  entry = λ n l z. no_entry_live n l;
}

empty_start : (g : Group) → CommonStart g empty_dock
unfolding empty_dock
empty_start g =
    record {
      sized = empty_invariant.shape.sized;
      order = order_passes_test empty_tables empty_invariant;
      unlinked = empty_unlinked g;
      store = length-replicate {A = ℕ} 16384 0;
    }

-- demand 3
pub isolation : IsolatedFromEmpty
isolation g is js = isolation_from_any g empty_dock (empty_start g) is js
