-- The queue of the places that are gone: each once, at or below x; and when each has had its turn, all at or below x are gone.
use Prim.Native.Nat.{ℕ, ◌+◌, ◌≤◌, ◌<◌}
use native.Mathlib.Omega.{arith}
use mathlib.Core.Path.{◌≡◌, sym, ap, ◌∙◌, subst}
use mathlib.Core.Logic.{◌⊎◌, inl, inr}
use mathlib.Core.Bool.{true, false, ◌&&◌, cond}
use mathlib.Core.List.{List, map}
use lib.Dec.{eqb, ltb}
use lib.ListN.{length, get_or, set, length-set}
use lib.Seq.{get_or-set_same, get_or-set_other}
use borrow.Author.Tests.{eqb-true, eqb-false, ltb-true, ltb-false}
use Rattle.lists.proofs.Tests.{Case, pass, fail, case, contradiction, and_l, and_r, and_intro}
use Rattle.lists.proofs.NoneLeftOut.{none_left_out}
use Rattle.tables.specs.declared.{Name.Name, Entry.Entry}
use Rattle.tables.specs.Names.{no_entry}
use Rattle.tables.specs.Change.{drop_entry}
use Rattle.tables.proofs.ByPlace.{at}
use Rattle.op_drop_entries.specs.Links.{directly_below, LinkedEntries}
use Rattle.op_drop_entries.proofs.DirectlyBelow.{below_live}
use Rattle.op_drop_entries.proofs.Reaching.{under, under_up, all_under, dropped_by_places}

-- a place in the queue: its entry was live, at or below x, and is gone
pub record Removed (es us : List Entry) (x : Name) (i : ℕ) : Type 0 where
  pub low : i < 256
  pub live : (at es i).live ≡ true
  pub under : under es x (at es i).name ≡ true
  pub gone : at us i ≡ no_entry

-- the place i is in the queue
pub record Queued (queue : List ℕ) (tail i : ℕ) : Type 0 where
  pub turn : ℕ
  pub before : turn < tail
  pub here : get_or queue turn 0 ≡ i

-- es are the entries before, us now: those that are in the queue are gone, once each, the others as they were
pub record Partly (es us : List Entry) (x : Name) (queue : List ℕ) (tail : ℕ) : Type 0 where
  pub long : length us ≡ 256
  pub room : length queue ≡ 256
  pub removed : (h : ℕ) → h < tail → Removed es us x (get_or queue h 0)
  pub once : (h k : ℕ) → h < tail → k < tail → get_or queue h 0 ≡ get_or queue k 0 → h ≡ k
  pub kept : (i : ℕ) → i < 256 → (at us i ≡ at es i) ⊎ Queued queue tail i

-- nothing is left directly below those that had their turn
abbrev pub Swept : List Entry → List Entry → List ℕ → ℕ → Type 0
Swept es us queue head = (h : ℕ) → h < head → (i : ℕ) → i < 256 → directly_below (at es (get_or queue h 0)).name (at us i) ≡ false

-- nor, below the place i, directly below the entry n
abbrev pub Sweeping : Name → List Entry → ℕ → Type 0
Sweeping n us i = (j : ℕ) → j < i → directly_below n (at us j) ≡ false

module _ {es us : List Entry} {x : Name} {queue : List ℕ} {tail : ℕ} (now : Partly es us x queue tail) where
  -- a place with a live entry is not in the queue, so the queue has room for it
  not_queued : (i : ℕ) → (at us i).live ≡ true → Queued queue tail i → ⊥
  not_queued i l q =
      contradiction l
      (ap (λ (j : ℕ). (at us j).live) (sym q.here) ∙ ap (λ (e : Entry). e.live) (now.removed q.turn q.before).gone)

  pub tail_room : (i : ℕ) → i < 256 → (at us i).live ≡ true → tail < 256
  tail_room i b l = go (case (ltb tail 256))
    where
      go : Case (ltb tail 256) → tail < 256
      go (pass p) = ltb-true tail 256 p
      go (fail p) =
          let full : 256 ≤ tail = ltb-false tail 256 p in
          absurd
          (none_left_out 256 (λ h. get_or queue h 0) (λ h c. (now.removed h (omega arith)).low) (λ h k c d. now.once h k (omega arith) (omega arith)) i b
          (λ h c q. not_queued i l (record { turn = h; before = omega arith; here = q })))

  -- ---- one more: the live entry at place i goes, which is directly below one that is gone
  module _ (ok : LinkedEntries es) (long : length es ≡ 256) (i : ℕ) (b : i < 256) (n : Name) (d : directly_below n (at us i) ≡ true)
      (u : under es x n ≡ true) where
    us' : List Entry
    us' = set us i no_entry

    queue' : List ℕ
    queue' = set queue tail i

    pub was : at us i ≡ at es i
    was = go (now.kept i b)
      where
        go : (at us i ≡ at es i) ⊎ Queued queue tail i → at us i ≡ at es i
        go (inl q) = q
        go (inr q) = absurd (not_queued i (below_live n (at us i) d) q)

    d' : directly_below n (at es i) ≡ true
    d' = ap (directly_below n) (sym was) ∙ d

    fits : tail < 256
    fits = tail_room i b (below_live n (at us i) d)

    set_here : at us' i ≡ no_entry
    unfolding us'
    set_here = get_or-set_same us i no_entry no_entry (omega (arith, now.long))

    set_beside : (j : ℕ) → (j ≡ i → ⊥) → at us' j ≡ at us j
    unfolding us'
    set_beside j ne = get_or-set_other us i j no_entry no_entry ne

    queue_here : get_or queue' tail 0 ≡ i
    unfolding queue'
    queue_here = get_or-set_same queue tail i 0 (omega (arith, now.room, fits))

    queue_beside : (h : ℕ) → h < tail → get_or queue' h 0 ≡ get_or queue h 0
    unfolding queue'
    queue_beside h c = get_or-set_other queue tail h i 0 (λ q. omega arith)

    -- what is gone stays gone
    stays : (j : ℕ) → at us j ≡ no_entry → at us' j ≡ no_entry
    stays j g = go (case (eqb j i))
      where
        go : Case (eqb j i) → at us' j ≡ no_entry
        go (pass q) = ap (at us') (eqb-true j i q) ∙ set_here
        go (fail q) = set_beside j (eqb-false j i q) ∙ g

    removed_here : Removed es us' x i
    removed_here = record { low = b; live = below_live n (at es i) d'; under = under_up es ok x i n (omega arith) d' u; gone = set_here }

    removed_still : (j : ℕ) → Removed es us x j → Removed es us' x j
    removed_still j t = record { low = t.low; live = t.live; under = t.under; gone = stays j t.gone }

    -- a turn is an earlier one, or the new one
    earlier : (h : ℕ) → h < tail + 1 → eqb h tail ≡ false → h < tail
    earlier h c q = let ne : h ≡ tail → ⊥ = eqb-false h tail q in omega arith

    removed' : (h : ℕ) → h < tail + 1 → Removed es us' x (get_or queue' h 0)
    removed' h c = go (case (eqb h tail))
      where
        go : Case (eqb h tail) → Removed es us' x (get_or queue' h 0)
        go (pass q) = subst (Removed es us' x) (sym (ap (λ (k : ℕ). get_or queue' k 0) (eqb-true h tail q) ∙ queue_here)) removed_here
        go (fail q) =
            let e : h < tail = earlier h c q in
            subst (Removed es us' x) (sym (queue_beside h e)) (removed_still (get_or queue h 0) (now.removed h e))

    new_turn : (h : ℕ) → h < tail → get_or queue h 0 ≡ i → ⊥
    new_turn h c q = not_queued i (below_live n (at us i) d) (record { turn = h; before = c; here = q })

    once' : (h k : ℕ) → h < tail + 1 → k < tail + 1 → get_or queue' h 0 ≡ get_or queue' k 0 → h ≡ k
    once' h k c f q = go (case (eqb h tail)) (case (eqb k tail))
      where
        at_tail : (k : ℕ) → eqb k tail ≡ true → get_or queue' k 0 ≡ i
        at_tail k p = ap (λ (j : ℕ). get_or queue' j 0) (eqb-true k tail p) ∙ queue_here

        go : Case (eqb h tail) → Case (eqb k tail) → h ≡ k
        go (pass p) (pass r) = eqb-true h tail p ∙ sym (eqb-true k tail r)
        go (fail p) (fail r) =
            let a : h < tail = earlier h c p in
            let z : k < tail = earlier k f r in
            now.once h k a z (sym (queue_beside h a) ∙ q ∙ queue_beside k z)
        go (pass p) (fail r) =
            let z : k < tail = earlier k f r in
            absurd (new_turn k z (sym (queue_beside k z) ∙ sym q ∙ at_tail h p))
        go (fail p) (pass r) =
            let a : h < tail = earlier h c p in
            absurd (new_turn h a (sym (queue_beside h a) ∙ q ∙ at_tail k r))

    kept' : (j : ℕ) → j < 256 → (at us' j ≡ at es j) ⊎ Queued queue' (tail + 1) j
    kept' j c = go (case (eqb j i)) (now.kept j c)
      where
        go : Case (eqb j i) → (at us j ≡ at es j) ⊎ Queued queue tail j → (at us' j ≡ at es j) ⊎ Queued queue' (tail + 1) j
        go (pass p) _ = inr (record { turn = tail; before = omega arith; here = queue_here ∙ sym (eqb-true j i p) })
        go (fail p) (inl q) = inl (set_beside j (eqb-false j i p) ∙ q)
        go (fail p) (inr q) =
            inr (record { turn = q.turn; before = omega (arith, q.before); here = queue_beside q.turn q.before ∙ q.here })

    pub one_more : Partly es (set us i no_entry) x (set queue tail i) (tail + 1)
    unfolding us' queue'
    one_more = record {
      long = length-set us i no_entry ∙ now.long;
      room = length-set queue tail i ∙ now.room;
      removed = removed';
      once = once';
      kept = kept';
    }

    -- what was not there is not there now
    less : (m : Name) (j : ℕ) → directly_below m (at us j) ≡ false → directly_below m (at us' j) ≡ false
    unfolding directly_below
    less m j e = go (case (eqb j i))
      where
        go : Case (eqb j i) → directly_below m (at us' j) ≡ false
        go (pass p) = ap (directly_below m) (ap (at us') (eqb-true j i p) ∙ set_here)
        go (fail p) = ap (directly_below m) (set_beside j (eqb-false j i p)) ∙ e

    pub swept_still : (head : ℕ) → head ≤ tail → Swept es us queue head → Swept es (set us i no_entry) (set queue tail i) head
    unfolding us' queue'
    swept_still head c s h e j f =
        ap (λ (k : ℕ). directly_below (at es k).name (at us' j)) (queue_beside h (omega arith)) ∙ less (at es (get_or queue h 0)).name j (s h e j f)

    pub sweeping_gone : Sweeping n us i → Sweeping n (set us i no_entry) (i + 1)
    unfolding us' directly_below
    sweeping_gone s j c = go (case (eqb j i))
      where
        go : Case (eqb j i) → directly_below n (at us' j) ≡ false
        go (pass p) = ap (directly_below n) (ap (at us') (eqb-true j i p) ∙ set_here)
        go (fail p) = let ne : j ≡ i → ⊥ = eqb-false j i p in less n j (s j (omega arith))

  -- ---- all that is at or below x is gone
  module _ (ok : LinkedEntries es) (long : length es ≡ 256) (first : 0 < tail) (start : (at es (get_or queue 0 0)).name ≡ x)
      (head : ℕ) (done : tail ≤ head) (swept : Swept es us queue head) where
    root : (i : ℕ) → i < length es → (at es i).live ≡ true → (at es i).name ≡ x → Queued queue tail i
    root i b l q =
        let t : Removed es us x (get_or queue 0 0) = now.removed 0 first in
        record { turn = 0; before = first; here = ok.distinct (get_or queue 0 0) i (omega (arith, t.low)) b t.live l (start ∙ sym q) }

    closed : (i j : ℕ) → i < length es → j < length es → directly_below (at es j).name (at es i) ≡ true → Queued queue tail j → Queued queue tail i
    closed i j b c d q = go (now.kept i (omega arith))
      where
        go : (at us i ≡ at es i) ⊎ Queued queue tail i → Queued queue tail i
        go (inr p) = p
        go (inl p) =
            contradiction (ap (λ (k : ℕ). directly_below (at es k).name (at us i)) q.here ∙ ap (directly_below (at es j).name) p ∙ d)
            (swept q.turn (omega (arith, q.before)) i (omega arith))

    gone_at : (i : ℕ) → i < 256 → at us i ≡ drop_entry (under es x) (at es i)
    unfolding drop_entry
    gone_at i b = go (case ((at es i).live && under es x (at es i).name)) (now.kept i b)
      where
        go : Case ((at es i).live && under es x (at es i).name) → (at us i ≡ at es i) ⊎ Queued queue tail i
            → at us i ≡ cond ((at es i).live && under es x (at es i).name) no_entry (at es i)
        go (pass e) _ =
            let q : Queued queue tail i
            = all_under es ok x (Queued queue tail) root closed 256 i (omega arith) (and_l (at es i).live _ e) (and_r (at es i).live (under es x (at es i).name) e) in
            rw e (ap (at us) (sym q.here) ∙ (now.removed q.turn q.before).gone)
        go (fail e) (inl p) = rw e p
        go (fail e) (inr q) =
            let t : Removed es us x i = subst (Removed es us x) q.here (now.removed q.turn q.before) in
            contradiction (and_intro t.live t.under) e

    pub all_gone : us ≡ map (drop_entry (under es x)) es
    all_gone = dropped_by_places es us (under es x) (now.long ∙ sym long) (λ i b. gone_at i (omega arith))
