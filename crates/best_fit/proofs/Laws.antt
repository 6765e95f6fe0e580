-- Which sheets a take uses: the claims of specs/Claims, and laws for callers.
use Prim.Native.Nat.{ℕ, zero, suc, ◌+◌, ◌-◌, ◌≤◌, ◌<◌}
use native.Mathlib.Omega.{arith}
use mathlib.Core.Path.{◌≡◌, refl, sym, ap, subst, ◌∙◌, fun_ext}
use mathlib.Core.Bool.{Bool, true, false, not, ◌&&◌, ◌||◌, cond}
use mathlib.Core.List.{List, [], ◌∷◌}
use lib.Dec.{leb, ltb, eqb}
use borrow.Author.Tests.{lt-ltb, ltb-true, ltb-false}
use Rattle.lists.specs.Lists.{all, keep}
use Rattle.lists.proofs.Tests.{Case, pass, fail, case, contradiction, cannot_pass, cannot_fail, or_right, not_test, both_ways}
use Rattle.lists.proofs.Search.{least_passes, least_below}
use Rattle.tables.specs.declared.Entry.{Entry}
use Rattle.tables.specs.Sheets.{outside, is_free_run, lowest_run, has_run}
use Rattle.best_fit.specs.declared.Run.{Run}
use Rattle.best_fit.specs.BestFit.{run_at, smallest_below, best_fit}
use Rattle.best_fit.specs.Claims.{Hole, SmallestHoleFirst, OneBestFit, SameCircumstances}
use Rattle.best_fit.proofs.FreeRuns.{run_free, free_fits, free_outside, free_part, free_joined, run_long, run_low, run_found, run_whole}
use Rattle.best_fit.proofs.Smallest.{Found, Sought, found, nowhere, sought}

-- ---- free records have no sheets
abbrev live : List Entry → List Entry
live = keep (λ (e : Entry). e.live)

dead_outside : (e : Entry) (first count : ℕ) → e.live ≡ false → outside first count e ≡ true
unfolding outside
dead_outside e first count l = rw l

live_decide : (es : List Entry) (first count : ℕ) → all (outside first count) (live es) ≡ all (outside first count) es
unfolding all keep
live_decide [] first count = refl
live_decide (e ∷ es) first count = go (case e.live) (live_decide es first count)
  where
    passed : {b : Bool} → e.live ≡ b → all (outside first count) (cond e.live (e ∷ live es) (live es)) ≡ all (outside first count) (cond b (e ∷ live es) (live es))
    passed l = ap (λ (b : Bool). all (outside first count) (cond b (e ∷ live es) (live es))) l

    go : Case e.live → all (outside first count) (live es) ≡ all (outside first count) es
        → all (outside first count) (cond e.live (e ∷ live es) (live es)) ≡ (outside first count e && all (outside first count) es)
    go (pass l) rest = passed l ∙ ap (λ (b : Bool). outside first count e && b) rest
    go (fail l) rest = passed l ∙ rest ∙ sym (ap (λ (b : Bool). b && all (outside first count) es) (dead_outside e first count l))

pub best_is : (entries : List Entry) (count : ℕ) → best_fit entries count ≡ (smallest_below (is_free_run entries) count 256).first
unfolding best_fit is_free_run
best_is entries count =
    ap (λ (free : ℕ → ℕ → Bool). (smallest_below free count 256).first)
    (fun_ext (λ c. fun_ext (λ f. ap (λ (b : Bool). leb (f + c) 256 && b) (live_decide entries f c))))

-- entries that leave the same runs free
pub best_same : (es fs : List Entry) → ((c f : ℕ) → is_free_run es c f ≡ is_free_run fs c f) → (count : ℕ) → best_fit es count ≡ best_fit fs count
best_same es fs same count =
    best_is es count ∙ ap (λ (free : ℕ → ℕ → Bool). (smallest_below free count 256).first) (fun_ext (λ c. fun_ext (λ f. same c f))) ∙ sym (best_is fs count)

module _ (entries : List Entry) (count : ℕ) (one : 1 ≤ count) where
  abbrev free : ℕ → ℕ → Bool
  free = is_free_run entries

  abbrev best : Run
  best = smallest_below free count 256

  -- ---- where there is a run of count sheets, its lowest begins a free run
  lowest_free : lowest_run entries count < 256 → free count (lowest_run entries count) ≡ true
  unfolding lowest_run
  lowest_free low = least_passes (free count) 256 0 (omega arith)

  none_lower : (first : ℕ) → first < lowest_run entries count → free count first ≡ false
  unfolding lowest_run
  none_lower first low = least_below (free count) 256 0 first (omega arith) low

  lowest_begins : (first : ℕ) → first ≡ lowest_run entries count → free count first ≡ true → (eqb first 0 || not (free 2 (first - 1))) ≡ true
  lowest_begins zero is h = refl
  lowest_begins (suc f) is h = or_right (eqb (suc f) 0) (not_test (free 2 (suc f - 1)) (cannot_pass (free 2 (suc f - 1)) no))
    where
      no : free 2 (suc f - 1) ≡ true → ⊥
      no two =
          let joined = free_joined entries f count one (subst (λ (x : ℕ). free 2 x ≡ true) (omega arith) two) h in
          contradiction (free_part entries f (suc count) f count (omega arith) (omega arith) joined) (none_lower f (omega (arith, is)))

  lowest_long : lowest_run entries count < 256 → count ≤ run_at free (lowest_run entries count)
  lowest_long low =
      run_long entries (lowest_run entries count) count (lowest_begins (lowest_run entries count) refl (lowest_free low)) (lowest_free low)

  has_low : has_run entries count ≡ true → lowest_run entries count < 256
  unfolding has_run
  has_low has = ltb-true (lowest_run entries count) 256 has

  best_found : has_run entries count ≡ true → Found free count 256 best
  best_found has = go (sought free count 256)
    where
      go : Sought free count 256 best → Found free count 256 best
      go (found f) = f
      go (nowhere o) = absurd (omega (arith, o.short (lowest_run entries count) (has_low has), lowest_long (has_low has)))

  found_free : Found free count 256 best → free count best.first ≡ true
  found_free f = run_free free best.first count one (omega (arith, f.is, f.enough))

  -- ---- and where a free run is found there is one
  found_has : Found free count 256 best → has_run entries count ≡ true
  unfolding has_run
  found_has f = cannot_fail (ltb (lowest_run entries count) 256) none
    where
      none : ltb (lowest_run entries count) 256 ≡ false → ⊥
      none e =
          let high : 256 ≤ lowest_run entries count = ltb-false (lowest_run entries count) 256 e in
          contradiction (found_free f) (none_lower best.first (omega (arith, f.low)))

  pub run_there : best_fit entries count < 256 → has_run entries count ≡ true
  run_there low = go (sought free count 256)
    where
      go : Sought free count 256 best → has_run entries count ≡ true
      go (found f) = found_has f
      go (nowhere o) = absurd (omega (arith, low, best_is entries count, o.first))

  has_best : has_run entries count ≡ true → best_fit entries count < 256
  has_best has = omega (arith, best_is entries count, (best_found has).low)

  pub run_nowhere : 256 ≤ best_fit entries count → has_run entries count ≡ false
  run_nowhere high = cannot_pass (has_run entries count) (λ has. omega (arith, high, has_best has))

  module _ (has : has_run entries count ≡ true) where
    best_free : free count (best_fit entries count) ≡ true
    best_free = rw (best_is entries count) (found_free (best_found has))

    pub best_fits : best_fit entries count + count ≤ 256
    best_fits = free_fits entries count (best_fit entries count) best_free

    pub best_outside : all (outside (best_fit entries count) count) entries ≡ true
    best_outside = free_outside entries count (best_fit entries count) best_free

-- ---- "Refusal 11 is given in the same circumstances as before."
pub same_circumstances : SameCircumstances
same_circumstances entries count one =
    both_ways (ltb (best_fit entries count) 256) (has_run entries count) (λ e. run_there entries count one (ltb-true (best_fit entries count) 256 e))
    (λ has. lt-ltb (best_fit entries count) 256 (has_best entries count one has))

-- ---- "the smallest free run that is long enough, the lowest one among equals, from its lowest sheet"
pub smallest_hole_first : SmallestHoleFirst
smallest_hole_first entries count one has = record {
  run = run;
  best = record {
    is =
        subst (Hole entries) (ap (λ (c : ℕ). record { first = run.first; count = c }) f.is)
        (run_whole entries run.first (omega (arith, f.is, f.enough)));
    enough = f.enough;
    smallest = λ other is long.
        subst (λ (c : ℕ). run.count ≤ c) (run_found entries other is)
        (f.smallest other.first (run_low entries other is) (omega (arith, run_found entries other is)));
    lowest = λ other is same. f.lowest other.first (run_low entries other is) (run_found entries other is ∙ same);
  };
  first = best_is entries count;
}
  where
    run : Run
    run = smallest_below (is_free_run entries) count 256

    f : Found (is_free_run entries) count 256 run
    f = best_found entries count one has

pub one_best_fit : OneBestFit
one_best_fit entries count run other a b = λ i. record { first = firsts i; count = counts i }
  where
    counts : run.count ≡ other.count
    counts = omega (arith, a.smallest other b.is b.enough, b.smallest run a.is a.enough)

    firsts : run.first ≡ other.first
    firsts = omega (arith, a.lowest other b.is (sym counts), b.lowest run a.is counts)
