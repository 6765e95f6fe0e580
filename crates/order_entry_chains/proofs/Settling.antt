-- Walks that cut the links behind them. A chain that ends still ends when links of chains that end are cut, sooner or as soon; and a chain
-- that ends after the cuts ended before. A chain of places that ends passes each place once, so it has fewer links than there are places.
use Prim.Native.Nat.{ℕ, zero, suc, ◌+◌, ◌-◌, ◌≤◌, ◌<◌}
use native.Mathlib.Omega.{arith}
use native.Mathlib.Nat.{le_of_suc-le-suc}
use mathlib.Core.Path.{◌≡◌, refl, sym, ap, subst, ◌∙◌}
use mathlib.Core.Logic.{◌⊎◌, inl, inr}
use mathlib.Core.Bool.{Bool, true, false, cond}
use mathlib.Core.List.{List}
use lib.Dec.{eqb, ltb}
use lib.ListN.{length, get_or, set, length-set}
use lib.Seq.{get_or-set_same, get_or-set_other}
use borrow.Author.Count.{below_more}
use borrow.Author.Tests.{eqb-true, eqb-false, lt-ltb, le-ltb, ltb-true, ltb-false}
use Rattle.lists.specs.Lists.{all_at}
use Rattle.lists.proofs.Tests.{Case, pass, fail, case, no_true, cannot_pass}
use Rattle.lists.proofs.Everywhere.{all_at_intro, all_at_elim}
use Rattle.lists.proofs.Pigeonhole.{pigeonhole}
use Rattle.image_places.specs.Walk.{end_from}
use Rattle.order_entry_chains.specs.Ends.{Ends, stop, link, Ended, Loose, Cut, Settled, LinksListed, all_end}

-- ---- the end of a chain by places left
module _ (up : List ℕ) where
  pub end_stops : (m i : ℕ) → length up ≤ get_or up i 0 → end_from (suc m) up i ≡ i
  unfolding end_from
  end_stops m i h = rw (le-ltb (get_or up i 0) (length up) h)

  pub end_climbs : (m i : ℕ) → get_or up i 0 < length up → end_from (suc m) up i ≡ end_from m up (get_or up i 0)
  unfolding end_from
  end_climbs m i h = rw (lt-ltb (get_or up i 0) (length up) h)

  -- places enough
  enough : (m i d : ℕ) → i < length up → Ends up i d → d < m → end_from m up i < length up
  enough zero i d h e b = absurd (omega arith)
  enough (suc m) i zero h (stop s) b = subst (λ (j : ℕ). j < length up) (sym (end_stops m i s)) h
  enough (suc m) i (suc d) h (link s e) b =
      subst (λ (j : ℕ). j < length up) (sym (end_climbs m i s)) (enough m (get_or up i 0) d s e (le_of_suc-le-suc b))

  -- a walk that comes to an end
  record Short (m i : ℕ) : Type 0 where
    links : ℕ
    few : links < m
    ends : Ends up i links

  came : (m i : ℕ) → end_from m up i < length up → Short m i
  unfolding end_from
  came zero i h = absurd (omega arith)
  came (suc m) i h = go (case (ltb (get_or up i 0) (length up))) (came m (get_or up i 0))
    where
      go : Case (ltb (get_or up i 0) (length up)) → (end_from m up (get_or up i 0) < length up → Short m (get_or up i 0)) → Short (suc m) i
      go (fail e) ih = record { links = 0; few = omega arith; ends = stop (ltb-false (get_or up i 0) (length up) e) }
      go (pass e) ih =
          let s = ltb-true (get_or up i 0) (length up) e in
          let r = ih (subst (λ (j : ℕ). j < length up) (end_climbs m i s) h) in
          record { links = suc r.links; few = omega (arith, r.few); ends = link s r.ends }

  -- ---- fewer links than places
  ends_unique : {i d e : ℕ} → Ends up i d → Ends up i e → d ≡ e
  ends_unique (stop s) (stop u) = refl
  ends_unique (stop s) (link u r) = absurd (omega arith)
  ends_unique (link s r) (stop u) = absurd (omega arith)
  ends_unique (link s r) (link u q) = ap suc (ends_unique r q)

  -- the place that is k links from the chain's end
  passed : {i d : ℕ} → Ends up i d → ℕ → ℕ
  passed {i} (stop s) k = i
  passed {i} (link {d = d} s r) k = cond (eqb k (suc d)) i (passed r k)

  passed_ends : {i d : ℕ} (r : Ends up i d) (k : ℕ) → k ≤ d → Ends up (passed r k) k
  unfolding passed
  passed_ends {i} (stop s) k b = let z : k ≡ 0 = omega arith in subst (λ (j : ℕ). Ends up i j) (sym z) (stop s)
  passed_ends {i} (link {d = d} s r) k b = go (case (eqb k (suc d))) (passed_ends r k)
    where
      go : Case (eqb k (suc d)) → (k ≤ d → Ends up (passed r k) k) → Ends up (cond (eqb k (suc d)) i (passed r k)) k
      go (pass q) ih = rw q (subst (λ (j : ℕ). Ends up i j) (sym (eqb-true k (suc d) q)) (link s r))
      go (fail q) ih = let z : k ≡ suc d → ⊥ = eqb-false k (suc d) q in rw q (ih (omega arith))

  passed_low : {i d : ℕ} (r : Ends up i d) → i < length up → (k : ℕ) → passed r k < length up
  unfolding passed
  passed_low (stop s) h k = h
  passed_low {i} (link {d = d} s r) h k = go (case (eqb k (suc d))) (passed_low r s k)
    where
      go : Case (eqb k (suc d)) → passed r k < length up → cond (eqb k (suc d)) i (passed r k) < length up
      go (pass q) ih = rw q h
      go (fail q) ih = rw q ih

  few_links : {i d : ℕ} → i < length up → Ends up i d → d < length up
  few_links {i} {d} h r =
      pigeonhole (length up) (suc d) (passed r) (λ k b. passed_low r h k)
      (λ k j b c e. ends_unique (subst (λ (x : ℕ). Ends up x k) e (passed_ends r k (le_of_suc-le-suc b))) (passed_ends r j (le_of_suc-le-suc c)))

-- ---- cuts
cut_none : (up : List ℕ) → Cut up up
cut_none up = record { long = refl; each = λ i. inl refl }

module _ (before after : List ℕ) (c : Cut before after) where
  -- what ends after the cuts ended before
  was_ended : {i d : ℕ} → Ends after i d → Ended before i
  was_ended {i} (stop s) = go (c.each i)
    where
      go : (get_or after i 0 ≡ get_or before i 0) ⊎ Loose before after i → Ended before i
      go (inl e) = record { links = 0; ends = stop {i = i} (omega (arith, s, e, c.long)) }
      go (inr l) = l.ended
  was_ended {i} (link s r) = go (c.each i) (was_ended r)
    where
      go : (get_or after i 0 ≡ get_or before i 0) ⊎ Loose before after i → Ended before (get_or after i 0) → Ended before i
      go (inr l) w = absurd (omega (arith, s, l.cut, c.long))
      go (inl e) w =
          record {
            links = suc w.links;
            ends = link {i = i} (omega (arith, s, e, c.long)) (subst (λ (j : ℕ). Ends before j w.links) e w.ends);
          }

  -- what ended before ends after as few links
  record Sooner (i d : ℕ) : Type 0 where
    links : ℕ
    few : links ≤ d
    ends : Ends after i links

  still_ends : {i d : ℕ} → Ends before i d → Sooner i d
  still_ends {i} (stop s) = go (c.each i)
    where
      go : (get_or after i 0 ≡ get_or before i 0) ⊎ Loose before after i → Sooner i 0
      go (inl e) = record { links = 0; few = omega arith; ends = stop {i = i} (omega (arith, s, e, c.long)) }
      go (inr l) = record { links = 0; few = omega arith; ends = stop {i = i} (omega (arith, l.cut, c.long)) }
  still_ends {i} (link {d = d} s r) = go (c.each i) (still_ends r)
    where
      go : (get_or after i 0 ≡ get_or before i 0) ⊎ Loose before after i → Sooner (get_or before i 0) d → Sooner i (suc d)
      go (inr l) w = record { links = 0; few = omega arith; ends = stop {i = i} (omega (arith, l.cut, c.long)) }
      go (inl e) w =
          record {
            links = suc w.links;
            few = omega (arith, w.few);
            ends = link {i = i} (omega (arith, s, e, c.long)) (subst (λ (j : ℕ). Ends after j w.links) (sym e) w.ends);
          }

cut_more : (first mid last : List ℕ) → Cut first mid → Cut mid last → Cut first last
cut_more first mid last c k = record { long = k.long ∙ c.long; each = λ i. go i (k.each i) (c.each i) }
  where
    go : (i : ℕ) → (get_or last i 0 ≡ get_or mid i 0) ⊎ Loose mid last i → (get_or mid i 0 ≡ get_or first i 0) ⊎ Loose first mid i
        → (get_or last i 0 ≡ get_or first i 0) ⊎ Loose first last i
    go i (inl p) (inl q) = inl (p ∙ q)
    go i (inl p) (inr l) = inr (record { cut = omega (arith, p, l.cut); ended = l.ended })
    go i (inr l) _ = inr (record { cut = omega (arith, l.cut, c.long); ended = was_ended first mid c l.ended.ends })

-- ---- one walk
module _ (up : List ℕ) (at : ℕ) (long : length up ≡ 256) where
  pub out_of_places : (left : ℕ) → left ≡ 0 → (after : List ℕ) → Settled up after at left false
  out_of_places left z after = record { ended = λ e. no_true e; cut = λ e. no_true e; endless = λ e d r. omega arith }

  module _ (next : ℕ) (e : next ≡ get_or up at 0) where
    pub at_end : (left : ℕ) → 256 ≤ next → Settled up up at left true
    at_end left h = record {
      ended = λ t. record { links = 0; ends = stop {i = at} (omega (arith, long, e, h)) };
      cut = λ t. cut_none up;
      endless = λ f. no_true (sym f);
    }

    module _ (left : ℕ) (some : left ≡ 0 → ⊥) (h : next < 256) (after : List ℕ) (r : Bool) (s : Settled up after next (left - 1) r) where
      pub no_end : r ≡ false → Settled up after at left false
      no_end q = record { ended = λ t. no_true t; cut = λ t. no_true t; endless = λ f. long_chain }
        where
          long_chain : (d : ℕ) → Ends up at d → left ≤ d
          long_chain zero (stop x) = absurd (omega (arith, x, long, e, h))
          long_chain (suc d) (link x c) =
              let b : left - 1 ≤ d = s.endless q d (subst (λ (j : ℕ). Ends up j d) (sym e) c) in
              omega arith

      pub cut_behind : r ≡ true → at < 256 → Settled up (set after at 256) at left true
      cut_behind q b = record { ended = λ t. this; cut = λ t. more; endless = λ f. no_true (sym f) }
        where
          w : Ended up next
          w = s.ended q

          c : Cut up after
          c = s.cut q

          this : Ended up at
          this = record { links = suc w.links; ends = link {i = at} (omega (arith, long, e, h)) (subst (λ (j : ℕ). Ends up j w.links) e w.ends) }

          more : Cut up (set after at 256)
          more = record { long = length-set after at 256 ∙ c.long; each = λ i. go i (case (eqb i at)) (c.each i) }
            where
              go : (i : ℕ) → Case (eqb i at) → (get_or after i 0 ≡ get_or up i 0) ⊎ Loose up after i
                  → (get_or (set after at 256) i 0 ≡ get_or up i 0) ⊎ Loose up (set after at 256) i
              go i (pass p) x =
                  let z : i ≡ at = eqb-true i at p in
                  let v : get_or (set after at 256) i 0 ≡ 256
                  = ap (λ (j : ℕ). get_or (set after at 256) j 0) z ∙ get_or-set_same after at 256 0 (omega (arith, c.long, long, b)) in
                  inr (record { cut = omega (arith, v, long); ended = subst (Ended up) (sym z) this })
              go i (fail p) (inl x) = inl (get_or-set_other after at i 256 0 (eqb-false i at p) ∙ x)
              go i (fail p) (inr x) =
                  let v : get_or (set after at 256) i 0 ≡ get_or after i 0 = get_or-set_other after at i 256 0 (eqb-false i at p) in
                  inr (record { cut = omega (arith, v, x.cut); ended = x.ended })

-- ---- all walks: from the first i of the listed places
pub record Walked (first places : List ℕ) (i : ℕ) (up : List ℕ) : Type 0 where
  pub cut : Cut first up
  pub ended : (j : ℕ) → j < i → Ended first (get_or places j 0)

pub walked_none : (first places : List ℕ) → Walked first places 0 first
walked_none first places = record { cut = cut_none first; ended = λ j h. absurd (omega arith) }

module _ (first places : List ℕ) (i : ℕ) (up : List ℕ) (w : Walked first places i up) (long : length first ≡ 256) (at : ℕ) (here : at ≡ get_or places i 0) where
  pub walked_skip : 256 ≤ get_or up at 0 → Walked first places (i + 1) up
  walked_skip s = record {
    cut = w.cut;
    ended = below_more _ i w.ended (subst (Ended first) here (was_ended first up w.cut {d = 0} (stop {i = at} (omega (arith, s, w.cut.long, long)))));
  }

  module _ (after : List ℕ) (r : Bool) (s : Settled up after at 256 r) where
    pub walked_more : r ≡ true → Walked first places (i + 1) after
    walked_more q = record {
      cut = cut_more first up after w.cut (s.cut q);
      ended = below_more _ i w.ended (subst (Ended first) here (was_ended first up w.cut (s.ended q).ends));
    }

    pub walked_bad : at < 256 → r ≡ false → false ≡ all_end first
    unfolding all_end
    walked_bad h q = sym (cannot_pass (all_at ends 0 first) bad)
      where
        ends : ℕ → ℕ → Bool
        ends j next = ltb (end_from 256 first j) 256

        bad : all_at ends 0 first ≡ true → ⊥
        bad a =
            let l = ltb-true (end_from 256 first at) 256 (all_at_elim 0 ends first a at (omega (arith, long, h))) in
            let e = came first 256 at (omega (arith, l, long)) in
            let t = still_ends first up w.cut e.ends in
            let m = s.endless q t.links t.ends in
            omega (arith, m, t.few, e.few)

module _ (first places : List ℕ) (i : ℕ) (up : List ℕ) (w : Walked first places i up) (long : length first ≡ 256) (listed : LinksListed first places)
    (all : length places ≤ i) where
  -- a place without a link is a chain's end
  each_ended : (p : ℕ) → p < 256 → Ended first p
  each_ended p h = go (case (ltb (get_or first p 0) 256))
    where
      go : Case (ltb (get_or first p 0) 256) → Ended first p
      go (pass e) =
          let s = listed p h (ltb-true (get_or first p 0) 256 e) in
          subst (Ended first) s.here (w.ended s.at (omega (arith, s.low, all)))
      go (fail e) = record { links = 0; ends = stop {i = p} (omega (arith, ltb-false (get_or first p 0) 256 e, long)) }

  pub walked_all : true ≡ all_end first
  unfolding all_end
  walked_all = sym (all_at_intro 0 ends first (λ j b. lt-ltb (end_from 256 first j) 256 (at j b)))
    where
      ends : ℕ → ℕ → Bool
      ends j next = ltb (end_from 256 first j) 256

      at : (j : ℕ) → j < length first → end_from 256 first j < 256
      at j b =
          let e = each_ended j (omega (arith, long, b)) in
          let few = few_links first b e.ends in
          let l = enough first 256 j e.links b e.ends (omega (arith, few, long)) in
          omega (arith, l, long)
