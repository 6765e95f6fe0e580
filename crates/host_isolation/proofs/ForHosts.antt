-- Demand 3 for a host. Call by call its dock stands for a state of the machine; the exchanges since the last emptying are those of a sequence
-- from the emptied dock, those since a loading of one from the text's tables; and `isolation` and `isolated_from_loaded` speak of such sequences.
use Prim.Native.Nat.{ℕ}
use mathlib.Core.Path.{◌≡◌, refl, sym, ap, ◌∙◌, subst}
use mathlib.Core.Bool.{Bool, true, false, ◌||◌, cond}
use mathlib.Core.List.{List, [], ◌∷◌, ◌++◌, map}
use Rattle.lists.specs.Lists.{some}
use Rattle.lists.proofs.Tests.{Case, pass, fail, case, contradiction, or_right, or_left, or_false_l, or_false_r}
use Rattle.machine.specs.State.{State}
use Rattle.machine.specs.Empty.{empty_dock}
use Rattle.machine.specs.Sequence.{Sent, after, Group, group_exchanges}
use Rattle.machine.specs.Isolation as claim
use Rattle.machine.specs.Isolation.{no_left, no_right}
use Rattle.isolation.proofs.Isolation.{isolation}
use Rattle.saved.specs.Claims.{with_loaded}
use Rattle.loaded_isolation.proofs.FromLoaded.{isolated_from_loaded}
use Rattle.host_isolation.specs.Calls.{Dock, WholeDock, Call, emptying, stepping, serving, tracing, reporting, saving, loading, checking, testing}
use Rattle.host_isolation.specs.Calls.{left, left_by_all, Exchange, made, empties, loads, begins, exchanges, none_crosses, of_group}
use Rattle.host_isolation.specs.Calls.{Isolated, IsolatedForHosts, IsolatedFromLoadedForHosts, BegunAnew}
use Rattle.host_isolation.proofs.Traced.{traced, traced_append, as_seen, edge_seen, group_seen, given_seen, agree_seen}
use Rattle.host_isolation.proofs.Stands.{Stands, stands_whole, emptied_stands, loaded_stands}
use Rattle.host_isolation.proofs.OneCall.{start_of, Makes, nothing_made, stepping_makes}
use Rattle.host_isolation.proofs.OneBatch.{serving_makes}
use Rattle.host_isolation.proofs.OneTrace.{tracing_makes}
use Rattle.host_isolation.proofs.NotWhole.{is_whole, whole_dock, none_at_all}

-- ---- any call
pub call_makes : (d : Dock) (s : State) → Stands d s → (c : Call) → Makes d c (start_of c s)
unfolding made left traced after
call_makes d s h emptying = record { sent = []; same = refl; stands = emptied_stands d (stands_whole d s h) }
call_makes d s h (stepping sheet request answer) = stepping_makes d sheet request answer s h
call_makes d s h (serving sheets requests answers) = serving_makes d sheets requests answers s h
call_makes d s h (tracing input output) = tracing_makes d input output s h
call_makes d s h (reporting scratch output) = nothing_made d (reporting scratch output) s refl refl h
call_makes d s h (saving output) = nothing_made d (saving output) s refl refl h
call_makes d s h (loading text) = record { sent = []; same = refl; stands = loaded_stands d (stands_whole d s h) text s.store h.store }
call_makes d s h (checking pad program number sheet right) = nothing_made d (checking pad program number sheet right) s refl refl h
call_makes d s h testing = nothing_made d testing s refl refl h

-- ---- any list of calls that loads nothing
abbrev start_for : Bool → State → State
start_for b s = cond b empty_dock s

unless_loading : (c : Call) (s : State) → loads c ≡ false → start_of c s ≡ start_for (begins c) s
unless_loading emptying s l = refl
unless_loading (stepping sheet request answer) s l = refl
unless_loading (serving sheets requests answers) s l = refl
unless_loading (tracing input output) s l = refl
unless_loading (reporting scratch output) s l = refl
unless_loading (saving output) s l = refl
unless_loading (loading text) s l = contradiction refl l
unless_loading (checking pad program number sheet right) s l = refl
unless_loading testing s l = refl

record Sequence (xs : List Exchange) (s : State) : Type 0 where
  sent : List Sent
  same : xs ≡ traced s sent

or_none : (x y : Bool) → y ≡ false → (x || y) ≡ x
or_none true y e = refl
or_none false y e = e

sequence_of : (cs : List Call) (d : Dock) (s : State) → Stands d s → some loads cs ≡ false → Sequence (exchanges d cs) (start_for (some begins cs) s)
unfolding exchanges some traced
sequence_of [] d s h l = record { sent = []; same = refl }
sequence_of (c ∷ cs) d s h l =
    let m : Makes d c (start_for (begins c) s) = subst (Makes d c) (unless_loading c s (or_false_l (loads c) (some loads cs) l)) (call_makes d s h c) in
    let at = start_for (begins c) s in
    go (case (some begins cs)) m (sequence_of cs (left d c) (after at m.sent) m.stands (or_false_r (loads c) (some loads cs) l))
  where
    go : Case (some begins cs) → (m : Makes d c (start_for (begins c) s))
        → Sequence (exchanges (left d c) cs) (start_for (some begins cs) (after (start_for (begins c) s) m.sent))
        → Sequence (exchanges d (c ∷ cs)) (start_for (begins c || some begins cs) s)
    go (pass e) m later = record {
      sent = later.sent;
      same = rw (e, or_right (begins c) {b = true} refl) (rw e at later.same);
    }
    go (fail e) m later = record {
      sent = m.sent ++ later.sent;
      same =
          let rest : exchanges (left d c) cs ≡ traced (after (start_for (begins c) s) m.sent) later.sent = rw e at later.same in
          let both : made d c ++ exchanges (left d c) cs ≡ traced (start_for (begins c) s) (m.sent ++ later.sent) =
          (λ i. m.same i ++ rest i) ∙ sym (traced_append (start_for (begins c) s) m.sent later.sent) in
          rw (e, or_none (begins c) false refl) both;
    }

-- emptied, whatever it held
since_emptied : (d : Dock) → WholeDock d → (cs : List Call) → some loads cs ≡ false → Sequence (exchanges d (emptying ∷ cs)) empty_dock
unfolding exchanges made
since_emptied d w cs l = go (case (some begins cs)) (sequence_of cs (left d emptying) empty_dock (emptied_stands d w) l)
  where
    go : Case (some begins cs) → Sequence (exchanges (left d emptying) cs) (start_for (some begins cs) empty_dock)
        → Sequence (exchanges d (emptying ∷ cs)) empty_dock
    go (pass e) q = record { sent = q.sent; same = rw e (rw e at q.same) }
    go (fail e) q = record { sent = q.sent; same = rw e (rw e at q.same) }

pub none_loads : (cs : List Call) → some begins cs ≡ false → some loads cs ≡ false
unfolding some
none_loads [] e = refl
none_loads (c ∷ cs) e =
    let here = or_false_r (empties c) (loads c) (or_false_l (begins c) (some begins cs) e) in
    rw here (none_loads cs (or_false_r (begins c) (some begins cs) e))

-- loaded, whatever its image held
since_loaded : (d : Dock) → WholeDock d → (text store : List ℕ) → d.store ≡ store → (cs : List Call) → some begins cs ≡ false
    → Sequence (exchanges d (loading text ∷ cs)) (with_loaded text store [])
unfolding exchanges made
since_loaded d w text store same cs e =
    let q = sequence_of cs (left d (loading text)) (with_loaded text store []) (loaded_stands d w text store same) (none_loads cs e) in
    record { sent = q.sent; same = rw e (rw e at q.same) }

-- ---- demand 3 for hosts
sequences_agree : (g : Group) (s : State) → ((is js : List Sent) → claim.Isolated g s is js)
    → (xs ys : List Exchange) → Sequence xs s → Sequence ys s → Isolated g xs ys
sequences_agree g s isolated xs ys p q a b given =
    let ours : of_group g xs ≡ map as_seen (group_exchanges g s p.sent) = ap (of_group g) p.same ∙ group_seen g s p.sent in
    let theirs : of_group g ys ≡ map as_seen (group_exchanges g s q.sent) = ap (of_group g) q.same ∙ group_seen g s q.sent in
    rw (ours, theirs)
    (agree_seen (group_exchanges g s p.sent) (group_exchanges g s q.sent)
    (isolated p.sent q.sent
    (sym (ap (none_crosses g) p.same ∙ edge_seen g s p.sent) ∙ a)
    (sym (ap (none_crosses g) q.same ∙ edge_seen g s q.sent) ∙ b)
    (given_seen (group_exchanges g s p.sent) (group_exchanges g s q.sent) (rw (ours, theirs) at given))))

pub isolated_for_hosts : IsolatedForHosts
unfolding of_group
isolated_for_hosts g d e cs ds k l = go (case (is_whole d)) (case (is_whole e))
  where
    go : Case (is_whole d) → Case (is_whole e) → Isolated g (exchanges d (emptying ∷ cs)) (exchanges e (emptying ∷ ds))
    go (fail o) _ a b given = rw (none_at_all (emptying ∷ cs) d o) no_left
    go (pass w) (fail o) a b given = rw (none_at_all (emptying ∷ ds) e o) no_right
    go (pass w) (pass v) a b given =
        sequences_agree g empty_dock (isolation g) (exchanges d (emptying ∷ cs)) (exchanges e (emptying ∷ ds))
        (since_emptied d (whole_dock d w) cs k) (since_emptied e (whole_dock e v) ds l) a b given

pub isolated_from_loaded_for_hosts : IsolatedFromLoadedForHosts
unfolding of_group
isolated_from_loaded_for_hosts g text d e cs ds same unlinked k l = go (case (is_whole d)) (case (is_whole e))
  where
    go : Case (is_whole d) → Case (is_whole e) → Isolated g (exchanges d (loading text ∷ cs)) (exchanges e (loading text ∷ ds))
    go (fail o) _ a b given = rw (none_at_all (loading text ∷ cs) d o) no_left
    go (pass w) (fail o) a b given = rw (none_at_all (loading text ∷ ds) e o) no_right
    go (pass w) (pass v) a b given =
        let whole = whole_dock d w in
        sequences_agree g (with_loaded text d.store []) (isolated_from_loaded g text d.store [] whole.store unlinked)
        (exchanges d (loading text ∷ cs)) (exchanges e (loading text ∷ ds))
        (since_loaded d whole text d.store refl cs k) (since_loaded e (whole_dock e v) text d.store (sym same) ds l) a b given

-- ---- what was called before
some_behind : (before : List Call) (c : Call) (cs : List Call) → begins c ≡ true → some begins (before ++ c ∷ cs) ≡ true
unfolding some
some_behind [] c cs e = or_left (some begins cs) e
some_behind (x ∷ before) c cs e = or_right (begins x) (some_behind before c cs e)

pub begun_anew : BegunAnew
unfolding exchanges left_by_all
begun_anew d [] c cs e = refl
begun_anew d (x ∷ before) c cs e = rw (some_behind before c cs e) (begun_anew (left d x) before c cs e)
