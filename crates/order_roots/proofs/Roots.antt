-- Roots share no sheet, by marks. After the first i of the listed roots a sheet is marked exactly where one of them has it, and no two of
-- them share one. A root whose run is fresh shares no sheet with them; a marked sheet in its run is one of an earlier root's.
use Prim.Native.Nat.{ℕ, ◌+◌, ◌-◌, ◌≤◌, ◌<◌}
use native.Mathlib.Omega.{arith}
use mathlib.Core.Path.{◌≡◌, sym, ap, subst, ◌∙◌}
use mathlib.Core.Bool.{Bool, true, false, not, ◌&&◌, ◌||◌}
use mathlib.Core.List.{List}
use lib.Dec.{eqb, leb, ltb}
use lib.ListN.{length, get_or, replicate}
use borrow.Author.Tests.{eqb-true, eqb-false, leb-true, leb-false, le-leb, ltb-true, ltb-false, not-false}
use Rattle.lists.specs.Lists.{no_two}
use Rattle.lists.proofs.Tests.{Case, pass, fail, case, no_true, cannot_pass, cannot_fail, and_intro, and_l, and_r, or_false_l, or_false_r}
use Rattle.lists.proofs.Everywhere.{no_two_intro, no_two_elim}
use Rattle.lists.proofs.Reading.{same_all}
use Rattle.tables.specs.declared.Entry.{Entry}
use Rattle.tables.specs.Names.{no_entry}
use Rattle.tables.specs.Sheets.{apart}
use Rattle.order_lists.specs.Listing.{Spot, EntriesListed, is_root}
use Rattle.order_roots.specs.Marks.{Shared, Fresh, Spanned, roots_in}

-- ---- two runs
-- runs that are apart have no sheet in common
apart_none : (f c g d s : ℕ) → apart f c g d ≡ true → f ≤ s → s < f + c → g ≤ s → s < g + d → ⊥
unfolding apart
apart_none f c g d s e h k l m = go (case (leb (f + c) g))
  where
    go : Case (leb (f + c) g) → ⊥
    go (pass p) = omega (arith, leb-true (f + c) g p)
    go (fail p) = let q : g + d ≤ f = leb-true (g + d) f (rw p at e) in omega arith

-- runs with sheets of which none is in common are apart: otherwise the higher of the two firsts is
none_apart : (f c g d : ℕ) → 1 ≤ c → 1 ≤ d → ((s : ℕ) → f ≤ s → s < f + c → g ≤ s → s < g + d → ⊥) → apart f c g d ≡ true
unfolding apart
none_apart f c g d hc hd none = cannot_fail (leb (f + c) g || leb (g + d) f) bad
  where
    bad : (leb (f + c) g || leb (g + d) f) ≡ false → ⊥
    bad e = go (case (leb f g))
      where
        u : g < f + c
        u = leb-false (f + c) g (or_false_l (leb (f + c) g) (leb (g + d) f) e)

        v : f < g + d
        v = leb-false (g + d) f (or_false_r (leb (f + c) g) (leb (g + d) f) e)

        go : Case (leb f g) → ⊥
        go (pass p) = none g (leb-true f g p) u (omega arith) (omega arith)
        go (fail p) = let l : g < f = leb-false f g p in none f (omega arith) (omega arith) (omega arith) v

-- ---- roots
abbrev shares : Entry → Entry → Bool
shares e other = not (apart e.first e.count other.first other.count)

-- the sheet s is the entry's
record Has (e : Entry) (s : ℕ) : Type 0 where
  from : e.first ≤ s
  to : s < e.first + e.count

module _ (es : List Entry) (places : List ℕ) where
  -- the root that is listed at i
  abbrev at : ℕ → Entry
  at i = get_or es (get_or places i 0) no_entry

  -- one of the first i roots has the sheet
  record Owner (i s : ℕ) : Type 0 where
    place : ℕ
    low : place < i
    has : Has (at place) s

  -- the marks after the first i roots
  pub record Swept (i : ℕ) (marks : List ℕ) : Type 0 where
    covered : (s : ℕ) → Owner i s → get_or marks s 0 ≡ 0 → ⊥
    owner : (s : ℕ) → (get_or marks s 0 ≡ 0 → ⊥) → Owner i s
    lone : (j k : ℕ) → j < k → k < i → shares (at j) (at k) ≡ false

  pub swept_none : Swept 0 (replicate {A = ℕ} 256 0)
  swept_none = record {
    covered = λ s o. absurd (omega (arith, o.low));
    owner = λ s ne. absurd (ne (same_all {A = ℕ} 256 0 s));
    lone = λ j k p q. absurd (omega arith);
  }

  -- what holds of pairs below i and of pairs with i, holds of pairs below i + 1
  lone_more : (i : ℕ) {marks : List ℕ} → Swept i marks → ((j : ℕ) → j < i → shares (at j) (at i) ≡ false)
      → (j k : ℕ) → j < k → k < i + 1 → shares (at j) (at k) ≡ false
  lone_more i w new j k p q = go (case (eqb k i))
    where
      go : Case (eqb k i) → shares (at j) (at k) ≡ false
      go (pass e) =
          let z : k ≡ i = eqb-true k i e in
          subst (λ (x : ℕ). shares (at j) (at x) ≡ false) (sym z) (new j (omega arith))
      go (fail e) = let ne : k ≡ i → ⊥ = eqb-false k i e in w.lone j k p (omega arith)

  module _ (listing : EntriesListed is_root es places) where
    module _ (i : ℕ) (low : i < length places) (marks : List ℕ) (w : Swept i marks) (read : Entry) (this : read ≡ at i) where
      abbrev f : ℕ
      f = (at i).first

      abbrev c : ℕ
      c = (at i).count

      -- T2 has no run past the store
      pub swept_past : Spanned es → 256 < read.first + read.count → ⊥
      swept_past spans h =
          let g : read.first ≡ f = ap (λ (e : Entry). e.first) this in
          let d : read.count ≡ c = ap (λ (e : Entry). e.count) this in
          omega (arith, h, g, d, (spans (get_or places i 0) (listing.low i low) (and_l (at i).live _ (listing.passes i low))).1)

      -- a fresh run shares no sheet with an earlier root's
      module _ (after : List ℕ) (marked : Fresh read.first read.count marks after) (spans : Spanned es) where
        fresh : Fresh f c marks after
        fresh = subst (λ (e : Entry). Fresh e.first e.count marks after) this marked

        counts : (j : ℕ) → j < i + 1 → 1 ≤ (at j).count
        counts j h =
            let b : j < length places = omega (arith, h, low) in
            (spans (get_or places j 0) (listing.low j b) (and_l (at j).live _ (listing.passes j b))).0

        free_run : (s : ℕ) → Has (at i) s → get_or marks s 0 ≡ 0
        free_run s h =
            let a = h.from in
            let b = h.to in
            let e : f + (s - f) ≡ s = omega arith in
            subst (λ (x : ℕ). get_or marks x 0 ≡ 0) e (fresh.clear (s - f) (omega arith))

        new_run : (s : ℕ) → Has (at i) s → get_or after s 0 ≡ 1
        new_run s h =
            let a = h.from in
            let b = h.to in
            let e : f + (s - f) ≡ s = omega arith in
            subst (λ (x : ℕ). get_or after x 0 ≡ 1) e (fresh.inside (s - f) (omega arith))

        beside : (s : ℕ) → (Has (at i) s → ⊥) → get_or after s 0 ≡ get_or marks s 0
        beside s out = go (case (leb f s))
          where
            go : Case (leb f s) → get_or after s 0 ≡ get_or marks s 0
            go (fail p) = fresh.below s (leb-false f s p)
            go (pass p) = go₂ (case (leb (f + c) s))
              where
                go₂ : Case (leb (f + c) s) → get_or after s 0 ≡ get_or marks s 0
                go₂ (pass q) = fresh.above s (leb-true (f + c) s q)
                go₂ (fail q) = absurd (out (record { from = leb-true f s p; to = leb-false (f + c) s q }))

        apart_new : (j : ℕ) → j < i → shares (at j) (at i) ≡ false
        apart_new j h =
            ap not
            (none_apart (at j).first (at j).count f c (counts j (omega arith)) (counts i (omega arith))
            (λ s p q u v. w.covered s (record { place = j; low = h; has = record { from = p; to = q } }) (free_run s (record { from = u; to = v }))))

        has_or : (s : ℕ) → Case (leb f s && leb (s + 1) (f + c))
        has_or s = case (leb f s && leb (s + 1) (f + c))

        inside_run : (s : ℕ) → (leb f s && leb (s + 1) (f + c)) ≡ true → Has (at i) s
        inside_run s e =
            let p = leb-true f s (and_l (leb f s) _ e) in
            let q = leb-true (s + 1) (f + c) (and_r (leb f s) _ e) in
            record { from = p; to = omega arith }

        outside_run : (s : ℕ) → (leb f s && leb (s + 1) (f + c)) ≡ false → Has (at i) s → ⊥
        outside_run s e h =
            let q = h.to in
            no_true (sym e ∙ and_intro (le-leb f s h.from) (le-leb (s + 1) (f + c) (omega arith)))

        pub swept_more : Swept (i + 1) after
        swept_more = record {
          covered = λ s o. covered_at s o (has_or s);
          owner = λ s ne. owner_at s ne (has_or s);
          lone = lone_more i w apart_new;
        }
          where
            covered_at : (s : ℕ) → Owner (i + 1) s → Case (leb f s && leb (s + 1) (f + c)) → get_or after s 0 ≡ 0 → ⊥
            covered_at s o (pass e) z = let q : ◌≡◌ {A = ℕ} 1 0 = sym (new_run s (inside_run s e)) ∙ z in omega (arith, q)
            covered_at s o (fail e) z = go (case (eqb o.place i))
              where
                go : Case (eqb o.place i) → ⊥
                go (pass q) = outside_run s e (subst (λ (x : ℕ). Has (at x) s) (eqb-true o.place i q) o.has)
                go (fail q) =
                    let ne : o.place ≡ i → ⊥ = eqb-false o.place i q in
                    w.covered s (record { place = o.place; low = omega (arith, o.low, ne); has = o.has }) (sym (beside s (outside_run s e)) ∙ z)

            owner_at : (s : ℕ) → (get_or after s 0 ≡ 0 → ⊥) → Case (leb f s && leb (s + 1) (f + c)) → Owner (i + 1) s
            owner_at s ne (pass e) = record { place = i; low = omega arith; has = inside_run s e }
            owner_at s ne (fail e) =
                let o = w.owner s (λ z. ne (beside s (outside_run s e) ∙ z)) in
                record { place = o.place; low = omega (arith, o.low); has = o.has }

      -- a marked sheet of the run is an earlier root's
      pub swept_shared : length es ≡ 256 → Shared read.first read.count marks → false ≡ roots_in es
      unfolding roots_in
      swept_shared long marked = sym (cannot_pass (no_two is_root shares es) two)
        where
          sh : Shared f c marks
          sh = subst (λ (e : Entry). Shared e.first e.count marks) this marked

          two : no_two is_root shares es ≡ true → ⊥
          two e =
              let s = f + sh.at in
              let o = w.owner s sh.marked in
              let b : o.place < length places = omega (arith, o.low, low) in
              let n = no_two_elim no_entry is_root shares es e (get_or places o.place 0) (get_or places i 0) (listing.rising o.place i o.low low)
              (omega (arith, listing.low i low, long)) (listing.passes o.place b) (listing.passes i low) in
              let b = sh.low in
              apart_none (at o.place).first (at o.place).count f c s (not-false _ n) o.has.from o.has.to (omega arith) (omega arith)

    pub swept_end : length es ≡ 256 → (i : ℕ) (marks : List ℕ) → length places ≤ i → Swept i marks → true ≡ roots_in es
    unfolding roots_in
    swept_end long i marks h w =
        sym
        (no_two_intro no_entry is_root shares es
        (λ p q b l m n. two p q b (listing.all p (omega (arith, b, l, long)) m) (listing.all q (omega (arith, l, long)) n)))
      where
        two : (p q : ℕ) → p < q → Spot places (length places) p → Spot places (length places) q → shares (get_or es p no_entry) (get_or es q no_entry) ≡ false
        two p q b u v =
            subst (λ (x : ℕ). shares (get_or es x no_entry) (get_or es q no_entry) ≡ false) u.here
            (subst (λ (x : ℕ). shares (at u.at) (get_or es x no_entry) ≡ false) v.here (w.lone u.at v.at order (omega (arith, v.low, h))))
          where
            order : u.at < v.at
            order = go (case (ltb u.at v.at)) (case (eqb u.at v.at))
              where
                go : Case (ltb u.at v.at) → Case (eqb u.at v.at) → u.at < v.at
                go (pass e) g = ltb-true u.at v.at e
                go (fail e) (pass g) =
                    let z : p ≡ q = sym u.here ∙ ap (λ (x : ℕ). get_or places x 0) (eqb-true u.at v.at g) ∙ v.here in
                    absurd (omega (arith, z, b))
                go (fail e) (fail g) =
                    let l : v.at < u.at = omega (arith, ltb-false u.at v.at e, eqb-false u.at v.at g) in
                    absurd (omega (arith, listing.rising v.at u.at l u.low, u.here, v.here, b))
