-- The search for the run that a take uses. Past the entries that begin below s, no free run begins between the furthest of their ends and s
-- but the one at that end; it goes on to the next sheet at which an entry begins, or to the store's end.
use Prim.Native.Nat.{ℕ, suc, ◌+◌, ◌-◌, ◌≤◌, ◌<◌, max}
use native.Mathlib.Omega.{arith}
use mathlib.Core.Path.{◌≡◌, refl, sym, ap, subst, ◌∙◌}
use mathlib.Core.Bool.{Bool, true, false, not, ◌&&◌, ◌||◌, cond}
use mathlib.Core.List.{List}
use lib.Dec.{leb, ltb, eqb}
use lib.ListN.{get_or}
use borrow.Author.Count.{below_more}
use borrow.Author.Tests.{lt-ltb, le-ltb, ltb-true, ltb-false, eqb-false}
use Rattle.lists.proofs.Tests.{Case, pass, fail, case, or_left, or_right, not_test}
use Rattle.tables.specs.declared.Entry.{Entry}
use Rattle.tables.specs.Sheets.{is_free_run}
use Rattle.best_fit.specs.declared.Run.{Run}
use Rattle.best_fit.specs.BestFit.{run_at, smallest_below, best_fit}
use Rattle.best_fit.proofs.FreeRuns.{none_within, none_taken, none_behind, run_is}
use Rattle.best_fit.proofs.Smallest.{smallest_none, smallest_next, smallest_past}
use Rattle.best_fit.proofs.Laws.{best_is}
use Rattle.op_run.specs.Ends.{note_ends}
use Rattle.op_run.specs.Better.{better_of}
use Rattle.op_run.proofs.Runs.{no_ends, reach_more, run_behind, run_clear, end_behind}

no_sheets : (found : Run) (start end count : ℕ) → end ≤ start → found ≡ better_of found start end count
unfolding better_of
no_sheets found start end count h = rw (le-ltb start end h)

-- an entry that begins below s ends at start, or none does
data Reached (ends : List ℕ) (start s : ℕ) : Type 0 where
  none : start ≡ 0 → Reached ends start s
  one : (k : ℕ) → k < s → get_or ends k 0 ≡ start → Reached ends start s

reached_more : {ends : List ℕ} {start s : ℕ} → Reached ends start s → Reached ends start (s + 1)
reached_more (none e) = none e
reached_more (one k b e) = one k (omega arith) e

reached_next : {ends : List ℕ} {start s next : ℕ} → Reached ends start s → next ≡ max start (get_or ends s 0) → Reached ends next (s + 1)
reached_next {ends} {start} {s} {next} reached is = go (case (ltb start (get_or ends s 0)))
  where
    go : Case (ltb start (get_or ends s 0)) → Reached ends next (s + 1)
    go (pass b) = one s (omega arith) (omega (arith, is, ltb-true start (get_or ends s 0) b))
    go (fail b) =
        let same : start ≡ next = omega (arith, is, ltb-false start (get_or ends s 0) b) in
        subst (λ (n : ℕ). Reached ends n (s + 1)) same (reached_more reached)

-- ---- the sheets from start up to s
module _ (es : List Entry) {ends : List ℕ} (noted : ends ≡ note_ends es no_ends) {count : ℕ} (some : 1 ≤ count)
    {start s : ℕ} (within : s ≤ 256) (past : (k : ℕ) → k < s → get_or ends k 0 ≤ start) (reached : Reached ends start s) where
  abbrev free : ℕ → ℕ → Bool
  free = is_free_run es

  run_begins : (eqb start 0 || not (free 2 (start - 1))) ≡ true
  run_begins = go reached (case (eqb start 0))
    where
      go : Reached ends start s → Case (eqb start 0) → (eqb start 0 || not (free 2 (start - 1))) ≡ true
      go r (pass e) = or_left (not (free 2 (start - 1))) e
      go (none z) (fail e) = absurd (eqb-false start 0 e z)
      go (one k b e) (fail ne) =
          let there : get_or ends k 0 ≡ 0 → ⊥ = λ z. eqb-false start 0 ne (sym e ∙ z) in
          let low = end_behind es noted k (omega arith) there in
          or_right (eqb start 0) (not_test (free 2 (start - 1)) (run_behind es noted 2 (start - 1) k (omega (arith, low, e)) (omega (arith, e, eqb-false start 0 ne))))

  -- it goes on to s, and not further
  module _ (below : start < s) (closed : free (suc (s - start)) start ≡ false) where
    run_here : run_at free start ≡ s - start
    run_here =
        run_is free start (s - start) run_begins (omega arith)
        (λ less b. run_clear es noted (suc less) start (omega arith) (λ k c. past k (omega arith))) closed

    none_between : (m : ℕ) → suc start ≤ m → m < (s - suc start) + suc start → run_at free m ≡ 0
    none_between m a b =
        ap (run_at free) (omega arith)
        ∙ none_within free (m - 1) (run_clear es noted 2 (m - 1) (omega arith) (λ k c. omega (arith, past k (omega arith))))

    closed_run : smallest_below free count s ≡ better_of (smallest_below free count start) start s count
    unfolding better_of
    closed_run =
        ap (smallest_below free count) (omega arith)
        ∙ smallest_past free count some (suc start) (s - suc start) none_between
        ∙ smallest_next free count start
        ∙ ap (λ (n : ℕ). cond (leb count n && ltb n (smallest_below free count start).count) (record { first = start; count = n }) (smallest_below free count start)) run_here
        ∙ rw (lt-ltb start s below)

  -- an entry begins at s; next is the furthest end with it
  module _ (low : s < 256) {next : ℕ} (begun : get_or ends s 0 ≡ 0 → ⊥) (is : next ≡ max start (get_or ends s 0)) where
    taken : (m : ℕ) → s ≤ m → m < get_or ends s 0 → run_at free m ≡ 0
    taken m a b = none_taken free m (run_behind es noted 1 m s (omega arith) b)

    next_run : smallest_below free count next ≡ better_of (smallest_below free count start) start s count
    next_run = go (case (ltb start s)) (case (ltb start (get_or ends s 0)))
      where
        behind : s ≤ get_or ends s 0
        behind = end_behind es noted s low begun

        go : Case (ltb start s) → Case (ltb start (get_or ends s 0)) → smallest_below free count next ≡ better_of (smallest_below free count start) start s count
        go (pass a) b =
            let below : start < s = ltb-true start s a in
            let e : next ≡ get_or ends s 0 = omega (arith, is, behind) in
            let t : next ≡ (get_or ends s 0 - s) + s = omega (arith, e, behind) in
            ap (smallest_below free count) t
            ∙ smallest_past free count some s (get_or ends s 0 - s) (λ m c d. taken m c (omega (arith, behind)))
            ∙ closed_run below (run_behind es noted (suc (s - start)) start s (omega arith) (omega (arith, behind)))
        go (fail a) (fail b) =
            let c : s ≤ start = ltb-false start s a in
            ap (smallest_below free count) (omega (arith, is, ltb-false start (get_or ends s 0) b))
            ∙ no_sheets (smallest_below free count start) start s count c
        go (fail a) (pass b) =
            let c : s ≤ start = ltb-false start s a in
            let d : start < get_or ends s 0 = ltb-true start (get_or ends s 0) b in
            let e : next ≡ get_or ends s 0 = omega (arith, is) in
            let t : next ≡ (get_or ends s 0 - start) + start = omega (arith, e) in
            ap (smallest_below free count) t
            ∙ smallest_past free count some start (get_or ends s 0 - start) (λ m f g. taken m (omega arith) (omega arith))
            ∙ no_sheets (smallest_below free count start) start s count c

  -- all sheets have been seen
  last_run : s ≡ 256 → smallest_below free count 256 ≡ better_of (smallest_below free count start) start 256 count
  last_run end = go (case (ltb start 256))
    where
      go : Case (ltb start 256) → smallest_below free count 256 ≡ better_of (smallest_below free count start) start 256 count
      go (pass a) =
          let below : start < 256 = ltb-true start 256 a in
          subst (λ (n : ℕ). smallest_below free count n ≡ better_of (smallest_below free count start) start n count) end
          (closed_run (omega (arith, end)) (none_behind es (suc (s - start)) start (omega (arith, end))))
      go (fail a) =
          let high : 256 ≤ start = ltb-false start 256 a in
          let t : start ≡ (start - 256) + 256 = omega arith in
          sym
          (smallest_past free count some 256 (start - 256) (λ m b c. none_taken free m (none_behind es 1 m (omega arith))))
          ∙ ap (smallest_below free count) (sym t) ∙ no_sheets (smallest_below free count start) start 256 count high

-- ---- where the search stands: the sheets below s have been seen
pub record Sought (count : ℕ) (ends : List ℕ) (found : Run) (start s : ℕ) : Type 0 where
  pub past : (k : ℕ) → k < s → get_or ends k 0 ≤ start
  reached : Reached ends start s
  pub smallest : (es : List Entry) → ends ≡ note_ends es no_ends → found ≡ smallest_below (is_free_run es) count start

module _ {count : ℕ} {ends : List ℕ} where
  pub sought_none : Sought count ends (record { first = 256; count = 257 }) 0 0
  sought_none = record {
    past = λ k b. absurd (omega arith);
    reached = none refl;
    smallest = λ es q. sym (smallest_none (is_free_run es) count);
  }

  module _ {found : Run} {start s : ℕ} (so_far : Sought count ends found start s) where
    pub sought_on : s < 256 → get_or ends s 0 ≡ 0 → Sought count ends found start (s + 1)
    sought_on low e = record {
      past = below_more _ s so_far.past (omega (arith, e));
      reached = reached_more so_far.reached;
      smallest = so_far.smallest;
    }

    pub sought_more : 1 ≤ count → s < 256 → (get_or ends s 0 ≡ 0 → ⊥) → {after : Run} → after ≡ better_of found start s count
        → {next : ℕ} → next ≡ max start (get_or ends s 0) → Sought count ends after next (s + 1)
    sought_more some low begun {after} better {next} is = record {
      past = reach_more ends so_far.past is;
      reached = reached_next so_far.reached is;
      smallest = λ es q.
          better ∙ ap (λ (r : Run). better_of r start s count) (so_far.smallest es q)
          ∙ sym (next_run es q some (omega arith) so_far.past so_far.reached low begun is);
    }

    -- at none of the sheets that are left an entry begins
    pub sought_end : s ≤ 256 → ((k : ℕ) → s ≤ k → get_or ends k 0 ≡ 0) → 1 ≤ count → {best : Run} → best ≡ better_of found start 256 count
        → (es : List Entry) → ends ≡ note_ends es no_ends → best.first ≡ best_fit es count
    sought_end within rest some better es q =
        ap (λ (r : Run). r.first)
        (better ∙ ap (λ (r : Run). better_of r start 256 count) (so_far.smallest es q)
        ∙ sym (last_run es q some (omega arith) past (reached so_far.reached) refl))
        ∙ sym (best_is es count)
      where
        past : (k : ℕ) → k < 256 → get_or ends k 0 ≤ start
        past k b = go (case (ltb k s))
          where
            go : Case (ltb k s) → get_or ends k 0 ≤ start
            go (pass l) = so_far.past k (ltb-true k s l)
            go (fail l) = omega (arith, rest k (ltb-false k s l))

        reached : Reached ends start s → Reached ends start 256
        reached (none e) = none e
        reached (one k b e) = one k (omega (arith, within)) e
