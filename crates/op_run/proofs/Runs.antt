-- The ends of the entries noted by the sheets where they begin. A run that begins at a is free where each entry ends at or below a or begins
-- past the run.
use Prim.Native.Nat.{ℕ, zero, suc, ◌+◌, ◌-◌, ◌≤◌, ◌<◌, max}
use native.Mathlib.Omega.{arith}
use native.Mathlib.Numerals.{add-one}
use mathlib.Core.Path.{◌≡◌, refl, sym, ap, ◌∙◌, subst}
use mathlib.Core.Logic.{◌⊎◌, inl, inr}
use mathlib.Core.Bool.{true, false, not, ◌&&◌, ◌||◌, cond}
use mathlib.Core.List.{List, [], ◌∷◌}
use lib.Dec.{leb, ltb, eqb}
use lib.ListN.{length, get_or, set, drop, replicate, length-set, length-replicate, drop_of_length-le, get_or-replicate, get_or-eq_default}
use lib.Seq.{drop-cons, get_or-set_same, get_or-set_other}
use borrow.Author.Count.{below_more}
use borrow.Author.Tests.{lt-ltb, le-ltb, le-leb, lt-leb, ltb-true, ltb-false, eqb-true, eqb-false}
use Rattle.lists.specs.Lists.{all}
use Rattle.lists.proofs.Tests.{Case, pass, fail, case, contradiction, cannot_pass, and_r, and_intro, or_left, or_right, not_test}
use Rattle.lists.proofs.Everywhere.{all_intro, all_elim}
use Rattle.tables.specs.declared.Entry.{Entry}
use Rattle.tables.specs.Names.{no_entry}
use Rattle.tables.specs.Sheets.{apart, outside, is_free_run}
use Rattle.tables.proofs.ByPlace.{at}
use Rattle.op_run.specs.Ends.{note_end, note_ends, begins_below, begin_below, NotesEnd, NotesEnds}

abbrev end : Entry → ℕ
end e = e.first + e.count

-- ---- the further of two
pub further_from : (a b c : ℕ) → c < max a b → (c < a) ⊎ (c < b)
further_from a b c h = go (case (ltb c a))
  where
    go : Case (ltb c a) → (c < a) ⊎ (c < b)
    go (pass e) = inl (ltb-true c a e)
    go (fail e) = let low : a ≤ c = ltb-false c a e in inr (omega arith)

-- reach with the end noted at s taken in: no end noted up to there is past it
pub reach_more : (ends : List ℕ) {reach s next : ℕ} → ((k : ℕ) → k < s → get_or ends k 0 ≤ reach) → next ≡ max reach (get_or ends s 0)
    → (k : ℕ) → k < s + 1 → get_or ends k 0 ≤ next
reach_more ends {reach} {s} {next} before is =
    below_more _ s (λ k c. omega (arith, before k c, is)) (omega (arith, is))

-- ---- one entry noted
module _ (e : Entry) (l : List ℕ) where
  noted : e.live ≡ true → e.first < 256 → note_end e l ≡ set l e.first (max (get_or l e.first 0) (end e))
  unfolding note_end
  noted v b = rw (lt-ltb e.first 256 b, v)

  noted_dead : e.live ≡ false → l ≡ note_end e l
  unfolding note_end
  noted_dead v = rw v

  noted_high : e.live ≡ true → 256 ≤ e.first → l ≡ note_end e l
  unfolding note_end
  noted_high v b = rw (le-ltb e.first 256 b, v)

  data Noted : Type 0 where
    here : e.live ≡ true → e.first < 256 → note_end e l ≡ set l e.first (max (get_or l e.first 0) (end e)) → Noted
    not_here : note_end e l ≡ l → Noted

  how : Noted
  how = go (case e.live) (case (ltb e.first 256))
    where
      go : Case e.live → Case (ltb e.first 256) → Noted
      go (fail v) _ = not_here (sym (noted_dead v))
      go (pass v) (fail b) = not_here (sym (noted_high v (ltb-false e.first 256 b)))
      go (pass v) (pass b) = let h : e.first < 256 = ltb-true e.first 256 b in here v h (noted v h)

  one_long : length (note_end e l) ≡ length l
  one_long = go how
    where
      go : Noted → length (note_end e l) ≡ length l
      go (here v b q) = ap length q ∙ length-set l e.first (max (get_or l e.first 0) (end e))
      go (not_here q) = ap length q

  module _ (long : length l ≡ 256) where
    one_here : e.live ≡ true → e.first < 256 → get_or (note_end e l) e.first 0 ≡ max (get_or l e.first 0) (end e)
    one_here v b =
        ap (λ (m : List ℕ). get_or m e.first 0) (noted v b)
        ∙ get_or-set_same l e.first (max (get_or l e.first 0) (end e)) 0 (omega arith)

    one_upper : e.live ≡ true → e.first < 256 → end e ≤ get_or (note_end e l) e.first 0
    one_upper v b = omega (arith, one_here v b)

    -- what stands at k is what stood there, or the entry's end
    data Stands (k : ℕ) : Type 0 where
      old : get_or (note_end e l) k 0 ≡ get_or l k 0 → Stands k
      new : e.live ≡ true → e.first < 256 → e.first ≡ k → get_or (note_end e l) k 0 ≡ max (get_or l k 0) (end e) → Stands k

    stands : (k : ℕ) → Stands k
    stands k = go how (case (eqb k e.first))
      where
        go : Noted → Case (eqb k e.first) → Stands k
        go (not_here q) _ = old (ap (λ (m : List ℕ). get_or m k 0) q)
        go (here v b q) (fail ne) =
            old
            (ap (λ (m : List ℕ). get_or m k 0) q
            ∙ get_or-set_other l e.first k (max (get_or l e.first 0) (end e)) 0 (eqb-false k e.first ne))
        go (here v b q) (pass z) =
            let w : e.first ≡ k = sym (eqb-true k e.first z) in
            new v b w (subst (λ (j : ℕ). get_or (note_end e l) j 0 ≡ max (get_or l j 0) (end e)) w (one_here v b))

    one_keeps : (k : ℕ) → get_or l k 0 ≤ get_or (note_end e l) k 0
    one_keeps k = go (stands k)
      where
        go : Stands k → get_or l k 0 ≤ get_or (note_end e l) k 0
        go (old q) = omega (arith, q)
        go (new v b w q) = omega (arith, q)

    one_from : (k a : ℕ) → a < get_or (note_end e l) k 0 → (a < get_or l k 0) ⊎ ((e.live ≡ true) × (e.first ≡ k) × (a < end e))
    one_from k a h = go (stands k)
      where
        go : Stands k → (a < get_or l k 0) ⊎ ((e.live ≡ true) × (e.first ≡ k) × (a < end e))
        go (old q) = inl (rw q at h)
        go (new v b w q) = pick (further_from (get_or l k 0) (end e) a (rw q at h))
          where
            pick : (a < get_or l k 0) ⊎ (a < end e) → (a < get_or l k 0) ⊎ ((e.live ≡ true) × (e.first ≡ k) × (a < end e))
            pick (inl c) = inl c
            pick (inr c) = inr (v, w, c)

-- ---- the bound below which an entry begins
module _ (e : Entry) (bound : ℕ) where
  bound_noted : e.live ≡ true → e.first < 256 → begins_below e bound ≡ max bound (e.first + 1)
  unfolding begins_below
  bound_noted v b = rw (lt-ltb e.first 256 b, v)

  bound_kept : bound ≤ begins_below e bound
  unfolding begins_below
  bound_kept = go (case (e.live && ltb e.first 256))
    where
      go : Case (e.live && ltb e.first 256) → bound ≤ cond (e.live && ltb e.first 256) (max bound (e.first + 1)) bound
      go (pass q) = rw q (omega arith)
      go (fail q) = rw q (omega arith)

  bound_most : bound ≤ 256 → begins_below e bound ≤ 256
  unfolding begins_below
  bound_most most = go (case (e.live && ltb e.first 256))
    where
      go : Case (e.live && ltb e.first 256) → cond (e.live && ltb e.first 256) (max bound (e.first + 1)) bound ≤ 256
      go (pass q) = rw q (omega (arith, ltb-true e.first 256 (and_r e.live _ q)))
      go (fail q) = rw q most

-- ---- all entries noted
-- an entry that begins at k and ends past a
record Ending (es : List Entry) (k a : ℕ) : Type 0 where
  place : ℕ
  low : place < length es
  live : (at es place).live ≡ true
  first : (at es place).first ≡ k
  past : a < end (at es place)

all_keep : (es : List Entry) (l : List ℕ) → length l ≡ 256 → (k : ℕ) → get_or l k 0 ≤ get_or (note_ends es l) k 0
unfolding note_ends
all_keep [] l n k = omega arith
all_keep (e ∷ es) l n k = omega (arith, one_keeps e l n k, all_keep es (note_end e l) (one_long e l ∙ n) k)

all_upper : (es : List Entry) (l : List ℕ) → length l ≡ 256 → (j : ℕ) → j < length es → (at es j).live ≡ true → (at es j).first < 256
    → end (at es j) ≤ get_or (note_ends es l) (at es j).first 0
unfolding note_ends
all_upper [] l n j b v h = absurd (omega arith)
all_upper (e ∷ es) l n zero b v h = omega (arith, one_upper e l n v h, all_keep es (note_end e l) (one_long e l ∙ n) e.first)
all_upper (e ∷ es) l n (suc j) b v h = all_upper es (note_end e l) (one_long e l ∙ n) j (omega arith) v h

all_from : (es : List Entry) (l : List ℕ) → length l ≡ 256 → (k a : ℕ) → a < get_or (note_ends es l) k 0 → (a < get_or l k 0) ⊎ Ending es k a
unfolding note_ends
all_from [] l n k a h = inl h
all_from (e ∷ es) l n k a h = go (all_from es (note_end e l) (one_long e l ∙ n) k a h)
  where
    go : (a < get_or (note_end e l) k 0) ⊎ Ending es k a → (a < get_or l k 0) ⊎ Ending (e ∷ es) k a
    go (inr w) = inr (record { place = suc w.place; low = omega (arith, w.low); live = w.live; first = w.first; past = w.past })
    go (inl h) = pick (one_from e l n k a h)
      where
        pick : (a < get_or l k 0) ⊎ ((e.live ≡ true) × (e.first ≡ k) × (a < end e)) → (a < get_or l k 0) ⊎ Ending (e ∷ es) k a
        pick (inl c) = inl c
        pick (inr c) = inr (record { place = 0; low = omega arith; live = c.0; first = c.1; past = c.2 })

begin_kept : (es : List Entry) (bound : ℕ) → bound ≤ begin_below es bound
unfolding begin_below
begin_kept [] bound = omega arith
begin_kept (e ∷ es) bound = omega (arith, bound_kept e bound, begin_kept es (begins_below e bound))

begin_most : (es : List Entry) (bound : ℕ) → bound ≤ 256 → begin_below es bound ≤ 256
unfolding begin_below
begin_most [] bound most = most
begin_most (e ∷ es) bound most = begin_most es (begins_below e bound) (bound_most e bound most)

-- from the bound on nothing is noted
untouched : (es : List Entry) (l : List ℕ) → length l ≡ 256 → (bound k : ℕ) → begin_below es bound ≤ k → get_or (note_ends es l) k 0 ≡ get_or l k 0
unfolding note_ends begin_below
untouched [] l n bound k h = refl
untouched (e ∷ es) l n bound k h = untouched es (note_end e l) (one_long e l ∙ n) (begins_below e bound) k h ∙ go (stands e l n k)
  where
    go : Stands e l n k → get_or (note_end e l) k 0 ≡ get_or l k 0
    go (old q) = q
    go (new v b w q) =
        absurd (omega (arith, w, h, begin_kept es (begins_below e bound), bound_noted e bound v b))

-- the loop that notes them: from place i on, what is left to note
pub record Noting (es : List Entry) (before now : List ℕ) (below i : ℕ) : Type 0 where
  pub ends : note_ends (drop i es) now ≡ note_ends es before
  pub bound : begin_below (drop i es) below ≡ begin_below es 0

module _ (es : List Entry) (long : length es ≡ 256) {before : List ℕ} where
  pub noting_none : Noting es before before 0 0
  noting_none = record { ends = refl; bound = refl }

  module _ {now : List ℕ} {bound i : ℕ} (so_far : Noting es before now bound i) where
    pub noting_more : i < 256 → {e : Entry} → e ≡ at es i → {after : List ℕ} {next : ℕ} → NotesEnd e now after bound next → Noting es before after next (i + 1)
    unfolding note_ends begin_below
    noting_more low {e} is {after} {next} one = record {
      ends =
          ap (note_ends (drop (i + 1) es)) (one.ends ∙ ap (λ (x : Entry). note_end x now) is)
          ∙ sym (ap (λ (l : List Entry). note_ends l now) here) ∙ so_far.ends;
      bound =
          ap (begin_below (drop (i + 1) es)) (one.bound ∙ ap (λ (x : Entry). begins_below x bound) is)
          ∙ sym (ap (λ (l : List Entry). begin_below l bound) here) ∙ so_far.bound;
    }
      where
        here : drop i es ≡ at es i ∷ drop (i + 1) es
        here = let b : i < length es = omega (arith, long) in rw (add-one, drop-cons es i no_entry b)

    pub noting_end : 256 ≤ i → NotesEnds es before now bound
    unfolding note_ends begin_below
    noting_end high = record {
      ends = sym (ap (λ (l : List Entry). note_ends l now) none) ∙ so_far.ends;
      bound = sym (ap (λ (l : List Entry). begin_below l bound) none) ∙ so_far.bound;
    }
      where
        none : drop i es ≡ []
        none = let b : length es ≤ i = omega (arith, long) in drop_of_length-le es b

-- ---- no end noted yet
abbrev pub no_ends : List ℕ
no_ends = replicate 256 0

no_ends_long : length no_ends ≡ 256
no_ends_long = length-replicate {A = ℕ} 256 0

no_ends_lem : (k : ℕ) → get_or no_ends k 0 ≡ 0
no_ends_lem k = go (case (ltb k 256))
  where
    go : Case (ltb k 256) → get_or no_ends k 0 ≡ 0
    go (pass b) = get_or-replicate {A = ℕ} 256 k 0 0 (ltb-true k 256 b)
    go (fail b) =
        let h : 256 ≤ k = ltb-false k 256 b in
        let m : length no_ends ≤ k = omega (arith, no_ends_long) in
        get_or-eq_default no_ends 0 m

-- ---- an entry and a run of count sheets from a on
module _ (count a : ℕ) (e : Entry) where
  -- it begins before the run's end and ends past the run's beginning
  met : e.live ≡ true → e.first < a + count → a < end e → outside a count e ≡ false
  unfolding outside apart
  met v p q = rw (lt-leb (a + count) e.first p, lt-leb (end e) a q, v)

  clear_of : (e.live ≡ true → (a + count ≤ e.first) ⊎ (end e ≤ a)) → outside a count e ≡ true
  unfolding outside apart
  clear_of f = go (case e.live)
    where
      pick : (a + count ≤ e.first) ⊎ (end e ≤ a) → (leb (a + count) e.first || leb (end e) a) ≡ true
      pick (inl p) = or_left (leb (end e) a) (le-leb (a + count) e.first p)
      pick (inr p) = or_right (leb (a + count) e.first) (le-leb (end e) a p)

      go : Case e.live → (not e.live || (leb (a + count) e.first || leb (end e) a)) ≡ true
      go (fail v) = or_left (leb (a + count) e.first || leb (end e) a) (not_test e.live v)
      go (pass v) = or_right (not e.live) (pick (f v))

-- ---- all entries and the run
module _ (es : List Entry) (count a : ℕ) where
  run_met : (j : ℕ) → j < length es → (at es j).live ≡ true → (at es j).first < a + count → a < end (at es j) → is_free_run es count a ≡ false
  unfolding is_free_run
  run_met j b v p q =
      cannot_pass (leb (a + count) 256 && all (outside a count) es)
      (λ h. contradiction (all_elim no_entry (outside a count) es (and_r (leb (a + count) 256) _ h) j b) (met count a (at es j) v p q))

  run_free : a + count ≤ 256 → ((j : ℕ) → j < length es → (at es j).live ≡ true → (a + count ≤ (at es j).first) ⊎ (end (at es j) ≤ a))
      → is_free_run es count a ≡ true
  unfolding is_free_run
  run_free b clear = and_intro (le-leb (a + count) 256 b) (all_intro no_entry (outside a count) es (λ j c. clear_of count a (at es j) (clear j c)))

-- ---- all ends noted
pub bound_low : (es : List Entry) {before ends : List ℕ} {bound : ℕ} → NotesEnds es before ends bound → bound ≤ 256
bound_low es noted_all = omega (arith, noted_all.bound, begin_most es 0 (omega arith))

pub none_behind_bound : (es : List Entry) {ends : List ℕ} {bound : ℕ} → NotesEnds es no_ends ends bound → (k : ℕ) → bound ≤ k → get_or ends k 0 ≡ 0
none_behind_bound es noted_all k h =
    ap (λ (l : List ℕ). get_or l k 0) noted_all.ends ∙ untouched es no_ends no_ends_long 0 k (omega (arith, noted_all.bound)) ∙ no_ends_lem k

-- an end stands at a sheet that it is not below
pub end_behind : (es : List Entry) {ends : List ℕ} → ends ≡ note_ends es no_ends → (k : ℕ) → k < 256 → (get_or ends k 0 ≡ 0 → ⊥) → k ≤ get_or ends k 0
end_behind es {ends} noted_all k b ne =
    go (all_from es no_ends no_ends_long k (get_or ends k 0 - 1) (subst (λ (l : List ℕ). get_or ends k 0 - 1 < get_or l k 0) noted_all (omega (arith, ne))))
  where
    go : (get_or ends k 0 - 1 < get_or no_ends k 0) ⊎ Ending es k (get_or ends k 0 - 1) → k ≤ get_or ends k 0
    go (inl p) = absurd (omega (arith, no_ends_lem k, p))
    go (inr w) =
        let u = all_upper es no_ends no_ends_long w.place w.low w.live (omega (arith, w.first)) in
        let f = ap (λ (j : ℕ). get_or (note_ends es no_ends) j 0) w.first in
        omega (arith, u, f, w.first, ap (λ (l : List ℕ). get_or l k 0) noted_all)

-- and a run
module _ (es : List Entry) {ends : List ℕ} (noted_all : ends ≡ note_ends es no_ends) (count a : ℕ) where
  -- an end noted within the run or before it, and past its beginning, is that of an entry that meets it
  pub run_behind : (s : ℕ) → s < a + count → a < get_or ends s 0 → is_free_run es count a ≡ false
  run_behind s b h = go (all_from es no_ends no_ends_long s a (subst (λ (l : List ℕ). a < get_or l s 0) noted_all h))
    where
      go : (a < get_or no_ends s 0) ⊎ Ending es s a → is_free_run es count a ≡ false
      go (inl p) = absurd (omega (arith, no_ends_lem s, p))
      go (inr w) = run_met es count a w.place w.low w.live (omega (arith, w.first)) w.past

  pub run_clear : a + count ≤ 256 → ((k : ℕ) → k < a + count → get_or ends k 0 ≤ a) → is_free_run es count a ≡ true
  run_clear b before = run_free es count a b clear
    where
      clear : (j : ℕ) → j < length es → (at es j).live ≡ true → (a + count ≤ (at es j).first) ⊎ (end (at es j) ≤ a)
      clear j d v = go (case (ltb (at es j).first (a + count)))
        where
          go : Case (ltb (at es j).first (a + count)) → (a + count ≤ (at es j).first) ⊎ (end (at es j) ≤ a)
          go (fail p) = inl (ltb-false (at es j).first (a + count) p)
          go (pass p) =
              let z : (at es j).first < a + count = ltb-true (at es j).first (a + count) p in
              let u = all_upper es no_ends no_ends_long j d v (omega arith) in
              inr (omega (arith, u, ap (λ (l : List ℕ). get_or l (at es j).first 0) noted_all, before (at es j).first z))
