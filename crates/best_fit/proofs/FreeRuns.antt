-- The free runs of entries, and how many sheets `run_at` says that one has.
use Prim.Native.Nat.{ℕ, zero, suc, ◌+◌, ◌-◌, ◌≤◌, ◌<◌}
use native.Mathlib.Omega.{arith}
use mathlib.Core.Path.{◌≡◌, refl, sym, ap, subst, ◌∙◌}
use mathlib.Core.Bool.{Bool, true, false, not, ◌||◌, cond}
use mathlib.Core.List.{List}
use lib.Dec.{leb, ltb, eqb}
use lib.ListN.{get_or}
use borrow.Author.Tests.{leb-true, le-leb, lt-leb, ltb-true, ltb-false, ne_eqb, not-true, not-false}
use Rattle.lists.specs.Lists.{all, least}
use Rattle.lists.proofs.Tests.{Case, pass, fail, case, contradiction, cannot_pass, and_l, and_r, and_intro, or_left, or_right, not_test}
use Rattle.lists.proofs.Everywhere.{all_intro, all_elim}
use Rattle.lists.proofs.Search.{least_passes, least_below, least_most, least_is}
use Rattle.tables.specs.declared.Entry.{Entry}
use Rattle.tables.specs.Names.{no_entry}
use Rattle.tables.specs.Sheets.{apart, outside, is_free_run}
use Rattle.best_fit.specs.declared.Run.{Run}
use Rattle.best_fit.specs.BestFit.{run_at}
use Rattle.best_fit.specs.Claims.{Hole}

-- ---- over any test of runs
module _ (free : ℕ → ℕ → Bool) where
  -- so many more sheets, and the run is not free
  abbrev ends : ℕ → ℕ → Bool
  ends first more = not (free (suc more) first)

  abbrev begins : ℕ → Bool
  begins first = eqb first 0 || not (free 2 (first - 1))

  run_begun : (first : ℕ) → begins first ≡ true → run_at free first ≡ least (ends first) 256 0
  unfolding run_at
  run_begun first e = rw e

  run_begins : (first : ℕ) → 1 ≤ run_at free first → begins first ≡ true
  unfolding run_at
  run_begins first some = go (case (begins first))
    where
      go : Case (begins first) → begins first ≡ true
      go (pass e) = e
      go (fail e) = let none : 1 ≤ 0 = rw e at some in absurd (omega arith)

  pub run_most : (first : ℕ) → run_at free first ≤ 256
  unfolding run_at
  run_most first = go (case (begins first))
    where
      go : Case (begins first) → cond (begins first) (least (ends first) 256 0) 0 ≤ 256
      go (pass e) = rw e (least_most (ends first) 256 0)
      go (fail e) = rw e (omega arith)

  -- no run begins at a sheet that belongs to one with the sheet before, or to none
  pub none_within : (first : ℕ) → free 2 first ≡ true → run_at free (suc first) ≡ 0
  unfolding run_at
  none_within first h =
      let e : free 2 (suc first - 1) ≡ true = ap (free 2) (omega arith) ∙ h in
      rw (ne_eqb (suc first) 0 (λ z. omega (arith, z)), e)

  pub none_taken : (first : ℕ) → free 1 first ≡ false → run_at free first ≡ 0
  unfolding run_at
  none_taken first h = go (case (begins first))
    where
      go : Case (begins first) → cond (begins first) (least (ends first) 256 0) 0 ≡ 0
      go (pass e) = rw e (least_is (ends first) 256 0 0 (omega arith) (λ j a b. absurd (omega arith)) (omega arith) (not_test (free 1 first) h))
      go (fail e) = rw e

  -- runs of fewer sheets are free too
  pub run_is : (first count : ℕ) → begins first ≡ true → count ≤ 256
      → ((less : ℕ) → less < count → free (suc less) first ≡ true) → free (suc count) first ≡ false → run_at free first ≡ count
  run_is first count e most below above =
      run_begun first e
      ∙ least_is (ends first) 256 0 count (omega arith) (λ j a b. ap not (below j b)) (omega arith) (not_test (free (suc count) first) above)

  pub run_free : (first count : ℕ) → 1 ≤ count → count ≤ run_at free first → free count first ≡ true
  run_free first zero one long = absurd (omega arith)
  run_free first (suc c) one long =
      let begun = run_begun first (run_begins first (omega arith)) in
      not-false (free (suc c) first) (least_below (ends first) 256 0 c (omega arith) (omega (arith, begun, long)))

  run_ends : (first : ℕ) → 1 ≤ run_at free first → run_at free first < 256 → free (suc (run_at free first)) first ≡ false
  run_ends first some high =
      let begun = run_begun first (run_begins first some) in
      subst (λ (c : ℕ). free (suc c) first ≡ false) (sym begun)
      (not-true (free (suc (least (ends first) 256 0)) first) (least_passes (ends first) 256 0 (omega (arith, begun, high))))

-- ---- a run and part of it, against one entry
module _ (e : Entry) where
  outside_part : (first count first' count' : ℕ) → first ≤ first' → first' + count' ≤ first + count → outside first count e ≡ true → outside first' count' e ≡ true
  unfolding outside apart
  outside_part first count first' count' a b h = go (case e.live) (case (leb (first + count) e.first))
    where
      go : Case e.live → Case (leb (first + count) e.first) → (not e.live || (leb (first' + count') e.first || leb (e.first + e.count) first')) ≡ true
      go (fail l) _ = rw l
      go (pass l) (pass p) = rw l (or_left _ (le-leb (first' + count') e.first (omega (arith, leb-true (first + count) e.first p))))
      go (pass l) (fail p) =
          let q : leb (e.first + e.count) first ≡ true = rw (l, p) at h in
          rw l (or_right (leb (first' + count') e.first) (le-leb (e.first + e.count) first' (omega (arith, leb-true (e.first + e.count) first q))))

  -- two sheets, and a run that begins at the second
  outside_joined : (first count : ℕ) → 1 ≤ count → outside first 2 e ≡ true → outside (suc first) count e ≡ true → outside first (suc count) e ≡ true
  unfolding outside apart
  outside_joined first count one h k = go (case e.live) (case (leb (first + 2) e.first)) (case (leb (suc first + count) e.first))
    where
      go : Case e.live → Case (leb (first + 2) e.first) → Case (leb (suc first + count) e.first)
          → (not e.live || (leb (first + suc count) e.first || leb (e.first + e.count) first)) ≡ true
      go (fail l) _ _ = rw l
      go (pass l) (pass p) (pass q) = rw l (or_left _ (le-leb (first + suc count) e.first (omega (arith, leb-true (suc first + count) e.first q))))
      go (pass l) (fail p) _ =
          let z : leb (e.first + e.count) first ≡ true = rw (l, p) at h in
          rw l (or_right (leb (first + suc count) e.first) z)
      go (pass l) (pass p) (fail q) =
          let z : leb (e.first + e.count) (suc first) ≡ true = rw (l, q) at k in
          absurd (omega (arith, leb-true (first + 2) e.first p, leb-true (e.first + e.count) (suc first) z))

-- ---- outside all entries
module _ (entries : List Entry) where
  pub free_fits : (count first : ℕ) → is_free_run entries count first ≡ true → first + count ≤ 256
  unfolding is_free_run
  free_fits count first h = leb-true (first + count) 256 (and_l (leb (first + count) 256) _ h)

  pub free_outside : (count first : ℕ) → is_free_run entries count first ≡ true → all (outside first count) entries ≡ true
  unfolding is_free_run
  free_outside count first h = and_r (leb (first + count) 256) _ h

  pub none_behind : (count first : ℕ) → 256 < first + count → is_free_run entries count first ≡ false
  unfolding is_free_run
  none_behind count first h = rw (lt-leb (first + count) 256 h)

  pub free_part : (first count first' count' : ℕ) → first ≤ first' → first' + count' ≤ first + count → is_free_run entries count first ≡ true
      → is_free_run entries count' first' ≡ true
  unfolding is_free_run
  free_part first count first' count' a b h =
      and_intro (le-leb (first' + count') 256 (omega (arith, free_fits count first h)))
      (all_intro no_entry (outside first' count') entries
      (λ j d. outside_part (get_or entries j no_entry) first count first' count' a b (all_elim no_entry (outside first count) entries (free_outside count first h) j d)))

  pub free_joined : (first count : ℕ) → 1 ≤ count → is_free_run entries 2 first ≡ true → is_free_run entries count (suc first) ≡ true → is_free_run entries (suc count) first ≡ true
  unfolding is_free_run
  free_joined first count one h k =
      and_intro (le-leb (first + suc count) 256 (omega (arith, free_fits count (suc first) k)))
      (all_intro no_entry (outside first (suc count)) entries
      (λ j d. outside_joined (get_or entries j no_entry) first count one (all_elim no_entry (outside first 2) entries (free_outside 2 first h) j d)
      (all_elim no_entry (outside (suc first) count) entries (free_outside count (suc first) k) j d)))

  -- a free run that begins there has as many sheets, or more
  pub run_long : (first count : ℕ) → (eqb first 0 || not (is_free_run entries 2 (first - 1))) ≡ true → is_free_run entries count first ≡ true
      → count ≤ run_at (is_free_run entries) first
  run_long first count e h = go (case (ltb (run_at (is_free_run entries) first) count))
    where
      go : Case (ltb (run_at (is_free_run entries) first) count) → count ≤ run_at (is_free_run entries) first
      go (fail c) = ltb-false (run_at (is_free_run entries) first) count c
      go (pass c) =
          let l : run_at (is_free_run entries) first < count = ltb-true (run_at (is_free_run entries) first) count c in
          let begun = run_begun (is_free_run entries) first e in
          let fits = free_fits count first h in
          let more = free_part first count first (suc (run_at (is_free_run entries) first)) (omega arith) (omega arith) h in
          contradiction (subst (λ (c : ℕ). is_free_run entries (suc c) first ≡ true) begun more)
          (not-true (is_free_run entries (suc (least (ends (is_free_run entries) first) 256 0)) first)
          (least_passes (ends (is_free_run entries) first) 256 0 (omega (arith, begun, l, fits))))

  -- ---- the free runs are what `run_at` says
  module _ (run : Run) (whole : Hole entries run) where
    not_longer : (first : ℕ) → first ≤ run.first → run.first + run.count ≤ first + suc run.count → is_free_run entries (suc run.count) first ≡ false
    not_longer first a b =
        cannot_pass (is_free_run entries (suc run.count) first)
        (λ h. let c = whole.longest (record { first = first; count = suc run.count }) a b h in omega (arith, c))

    run_starts : (first : ℕ) → first ≡ run.first → (eqb first 0 || not (is_free_run entries 2 (first - 1))) ≡ true
    run_starts zero e = refl
    run_starts (suc f) e = or_right (eqb (suc f) 0) (not_test (is_free_run entries 2 (suc f - 1)) (cannot_pass (is_free_run entries 2 (suc f - 1)) no))
      where
        no : is_free_run entries 2 (suc f - 1) ≡ true → ⊥
        no h =
            let two : is_free_run entries 2 f ≡ true = subst (λ (x : ℕ). is_free_run entries 2 x ≡ true) (omega arith) h in
            let here : is_free_run entries run.count (suc f) ≡ true = subst (λ (x : ℕ). is_free_run entries run.count x ≡ true) (sym e) whole.free in
            contradiction (free_joined f run.count whole.some two here) (not_longer f (omega (arith, e)) (omega (arith, e)))

    pub run_low : run.first < 256
    run_low = omega (arith, free_fits run.count run.first whole.free, whole.some)

    pub run_found : run_at (is_free_run entries) run.first ≡ run.count
    run_found =
        run_is (is_free_run entries) run.first run.count (run_starts run.first refl)
        (omega (arith, free_fits run.count run.first whole.free))
        (λ less b. free_part run.first run.count run.first (suc less) (omega arith) (omega arith) whole.free)
        (not_longer run.first (omega arith) (omega arith))

  module _ (first : ℕ) (some : 1 ≤ run_at (is_free_run entries) first) where
    free_here : is_free_run entries (run_at (is_free_run entries) first) first ≡ true
    free_here = run_free (is_free_run entries) first (run_at (is_free_run entries) first) some (omega arith)

    longest_here : (other : Run) → other.first ≤ first → first + run_at (is_free_run entries) first ≤ other.first + other.count
        → is_free_run entries other.count other.first ≡ true → other.count ≤ run_at (is_free_run entries) first
    longest_here other a b h = go (case (ltb other.first first)) (case (ltb (run_at (is_free_run entries) first) other.count))
      where
        -- it can't be made longer below
        no_lower : other.first < first → ⊥
        no_lower l =
            let begun : not (is_free_run entries 2 (first - 1)) ≡ true
            = rw (ne_eqb first 0 (λ z. omega (arith, z))) at (run_begins (is_free_run entries) first some) in
            contradiction (free_part other.first other.count (first - 1) 2 (omega arith) (omega arith) h)
            (not-true (is_free_run entries 2 (first - 1)) begun)

        -- nor above
        no_more : first ≤ other.first → run_at (is_free_run entries) first < other.count → ⊥
        no_more l m =
            contradiction (free_part other.first other.count first (suc (run_at (is_free_run entries) first)) (omega arith) (omega arith) h)
            (run_ends (is_free_run entries) first some (omega (arith, free_fits other.count other.first h)))

        go : Case (ltb other.first first) → Case (ltb (run_at (is_free_run entries) first) other.count) → other.count ≤ run_at (is_free_run entries) first
        go (pass c) d = absurd (no_lower (ltb-true other.first first c))
        go (fail c) (pass d) = absurd (no_more (ltb-false other.first first c) (ltb-true (run_at (is_free_run entries) first) other.count d))
        go (fail c) (fail d) = ltb-false (run_at (is_free_run entries) first) other.count d

    pub run_whole : Hole entries (record { first = first; count = run_at (is_free_run entries) first })
    run_whole = record { some = some; free = free_here; longest = longest_here }
