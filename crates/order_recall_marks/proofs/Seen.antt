-- Keys seen so far. A loop over the keys at the listed places keeps what tells whether a key stands among those before it: a mark at a
-- place, or a list of the dead ones. Where a key that counts was seen before, two are alike. Where none was, those up to here are apart,
-- and at the end none stands twice: what is listed is every place that has a key, and 256 does not count.
use Prim.Native.Nat.{ℕ, ◌+◌, ◌≤◌, ◌<◌}
use native.Mathlib.Numerals.{add-one}
use native.Mathlib.Omega.{arith}
use mathlib.Core.Path.{◌≡◌, refl, sym, ap, ◌∙◌, subst}
use mathlib.Core.Bool.{Bool, true, false, ◌||◌, or-false}
use mathlib.Core.List.{List, [], ◌∷◌, ◌++◌}
use lib.Dec.{ltb, eqb}
use lib.ListN.{length, get_or, set, take, replicate, length-replicate, get_or-replicate, length-set}
use lib.Seq.{get_or-set_same, get_or-set_other, take-suc-set}
use borrow.Author.Count.{below_more}
use borrow.Author.Tests.{ltb-true, ltb-false, lt-ltb, eqb-true, eqb-false, eq-eqb, ne_eqb}
use Rattle.std.specs.List.{list_any}
use Rattle.std.proofs.lemmas.List.Folds.{list_any-append}
use Rattle.lists.specs.Lists.{some, no_two}
use Rattle.lists.proofs.Tests.{Case, pass, fail, case, no_true, contradiction, cannot_pass, both_ways, not_test, or_left, or_right}
use Rattle.lists.proofs.Everywhere.{some_intro, some_elim, no_two_intro, no_two_elim}
use Rattle.lists.proofs.Reading.{any_default}
use Rattle.order_lists.specs.Listing.{Spot}
use Rattle.order_recall_marks.specs.Keys.{is_place, is_dead, KeysListed, Marked}

-- ---- the listed places
module _ (keys places : List ℕ) (long : length keys ≡ 256) (listing : KeysListed keys places) where
  -- a key that is not 256 is at one
  spot : (p : ℕ) → p < 256 → (get_or keys p 0 ≡ 256 → ⊥) → Spot places (length places) p
  spot p h ne =
      listing.all p h
      (not_test (eqb (get_or keys p 256) 256)
      (ne_eqb (get_or keys p 256) 256 (λ e. ne (any_default keys p 0 256 (omega (arith, long, h)) ∙ e))))

  in_order_lem : (a b : ℕ) → a < b → (s : Spot places (length places) a) (t : Spot places (length places) b) → s.at < t.at
  in_order_lem a b h s t = go (case (ltb s.at t.at)) (case (ltb t.at s.at))
    where
      go : Case (ltb s.at t.at) → Case (ltb t.at s.at) → s.at < t.at
      go (pass e) c = ltb-true s.at t.at e
      go (fail e) (pass f) =
          let r = listing.rising t.at s.at (ltb-true t.at s.at f) s.low in
          absurd (omega (arith, r, h, s.here, t.here))
      go (fail e) (fail f) =
          let q : s.at ≡ t.at = omega (arith, ltb-false s.at t.at e, ltb-false t.at s.at f) in
          let r : get_or places s.at 0 ≡ get_or places t.at 0 = ap (λ (j : ℕ). get_or places j 0) q in
          absurd (omega (arith, r, h, s.here, t.here))

-- ---- among the keys at the first i of them
module _ (keys places : List ℕ) where
  abbrev key : ℕ → ℕ
  key a = get_or keys (get_or places a 0) 0

  -- x is one of them
  pub record Before (i x : ℕ) : Type 0 where
    pub at : ℕ
    pub low : at < i
    pub here : key at ≡ x

  later : (i x : ℕ) → Before i x → Before (i + 1) x
  later i x b = record { at = b.at; low = omega (arith, b.low); here = b.here }

  module _ (counts : ℕ → Bool) where
    -- no two of those that count are alike
    abbrev pub Apart : ℕ → Type 0
    Apart i = (a b : ℕ) → a < b → b < i → counts (key a) ≡ true → counts (key b) ≡ true → eqb (key a) (key b) ≡ false

    apart_none : Apart 0
    apart_none a b p q = absurd (omega (arith, q))

    apart_more : (i : ℕ) → Apart i → (counts (key i) ≡ true → (a : ℕ) → a < i → counts (key a) ≡ true → key a ≡ key i → ⊥) → Apart (i + 1)
    apart_more i apart new a b p q =
        below_more (λ b. a < b → counts (key a) ≡ true → counts (key b) ≡ true → eqb (key a) (key b) ≡ false) i (λ b h g. apart a b g h)
        (λ g c d. ne_eqb (key a) (key i) (λ s. new d a g c s)) b q p

    module _ (long : length keys ≡ 256) (listing : KeysListed keys places) where
      apart_end : counts 256 ≡ false → (i : ℕ) → length places ≤ i → Apart i → no_two counts eqb keys ≡ true
      apart_end none i h apart = no_two_intro 0 counts eqb keys two
        where
          counted : (p : ℕ) → p < length keys → counts (get_or keys p 0) ≡ true → Spot places (length places) p
          counted p g c =
              spot keys places long listing p (omega (arith, long, g))
              (λ z. contradiction (subst (λ (x : ℕ). counts x ≡ true) z c) none)

          two : (a b : ℕ) → a < b → b < length keys → counts (get_or keys a 0) ≡ true → counts (get_or keys b 0) ≡ true
              → eqb (get_or keys a 0) (get_or keys b 0) ≡ false
          two a b l g c d =
              let s = counted a (omega (arith, l, g)) c in
              let t = counted b g d in
              let e : get_or keys a 0 ≡ key s.at = ap (λ (p : ℕ). get_or keys p 0) (sym s.here) in
              let f : get_or keys b 0 ≡ key t.at = ap (λ (p : ℕ). get_or keys p 0) (sym t.here) in
              (λ k. eqb (e k) (f k))
              ∙ apart s.at t.at (in_order_lem keys places long listing a b l s t) (omega (arith, t.low, h))
              (subst (λ (x : ℕ). counts x ≡ true) e c) (subst (λ (x : ℕ). counts x ≡ true) f d)

      apart_not : (i : ℕ) → i < length places → Before i (key i) → counts (key i) ≡ true → no_two counts eqb keys ≡ false
      apart_not i h b c = cannot_pass (no_two counts eqb keys) twice
        where
          twice : no_two counts eqb keys ≡ true → ⊥
          twice e =
              contradiction (eq-eqb (key b.at) (key i) b.here)
              (no_two_elim 0 counts eqb keys e (get_or places b.at 0) (get_or places i 0) (listing.rising b.at i b.low h)
              (omega (arith, long, listing.low i h)) (subst (λ (x : ℕ). counts x ≡ true) (sym b.here) c) c)

  -- ---- the marks: 1 at the places among the keys, 0 elsewhere
  pub record Marks (i : ℕ) (marks : List ℕ) : Type 0 where
    pub long : length marks ≡ 256
    pub apart : Apart is_place i
    pub hit : (a : ℕ) → a < i → key a < 256 → get_or marks (key a) 0 ≡ 1
    pub from : (p : ℕ) → p < 256 → (get_or marks p 0 ≡ 0 → ⊥) → Before i p

  pub marks_none : (marks : List ℕ) → marks ≡ replicate 256 0 → Marks 0 marks
  marks_none marks e = record {
    long = ap length e ∙ length-replicate {A = ℕ} 256 0;
    apart = apart_none is_place;
    hit = λ a h. absurd (omega (arith, h));
    from = λ p h ne. absurd (ne (ap (λ (l : List ℕ). get_or l p 0) e ∙ get_or-replicate {A = ℕ} 256 p 0 0 h));
  }

  module _ (i : ℕ) (marks : List ℕ) (m : Marks i marks) where
    -- one turn, with x the key there
    module _ (x : ℕ) (is : x ≡ key i) where
      pub marks_skip : 256 ≤ x → Marks (i + 1) marks
      marks_skip h = record {
        long = m.long;
        apart = apart_more is_place i m.apart (λ c. absurd (omega (arith, ltb-true (key i) 256 c, is, h)));
        hit = below_more (λ a. key a < 256 → get_or marks (key a) 0 ≡ 1) i m.hit (λ k. absurd (omega (arith, is, h, k)));
        from = λ p l ne. later i p (m.from p l ne);
      }

      module _ (low : x < 256) where
        pub marks_more : get_or marks x 0 ≡ 0 → Marks (i + 1) (set marks x 1)
        marks_more z = record {
          long = length-set marks x 1 ∙ m.long;
          apart = apart_more is_place i m.apart (λ c a l d s. clash a l (s ∙ sym is));
          hit = hit;
          from = from;
        }
          where
            there : x < length marks
            there = omega (arith, m.long, low)

            clash : (a : ℕ) → a < i → key a ≡ x → ⊥
            clash a l s =
                let e : get_or marks (key a) 0 ≡ 1 = m.hit a l (omega (arith, s, low)) in
                let f : get_or marks (key a) 0 ≡ 0 = ap (λ (p : ℕ). get_or marks p 0) s ∙ z in
                omega (arith, e, f)

            hit : (a : ℕ) → a < i + 1 → key a < 256 → get_or (set marks x 1) (key a) 0 ≡ 1
            hit =
                below_more (λ a. key a < 256 → get_or (set marks x 1) (key a) 0 ≡ 1) i
                (λ a l k. get_or-set_other marks x (key a) 1 0 (clash a l) ∙ m.hit a l k)
                (λ k. rw (sym is) (get_or-set_same marks x 1 0 there))

            from : (p : ℕ) → p < 256 → (get_or (set marks x 1) p 0 ≡ 0 → ⊥) → Before (i + 1) p
            from p l ne = go (case (eqb p x))
              where
                go : Case (eqb p x) → Before (i + 1) p
                go (pass e) = record { at = i; low = omega arith; here = sym is ∙ sym (eqb-true p x e) }
                go (fail e) =
                    later i p (m.from p l (λ z. ne (get_or-set_other marks x p 1 0 (eqb-false p x e) ∙ z)))

        pub marks_not : length keys ≡ 256 → KeysListed keys places → i < length places → (get_or marks x 0 ≡ 0 → ⊥) → Marked keys marks false
        marks_not long listing l ne = record {
          once = sym (apart_not is_place long listing i l (subst (Before i) is (m.from x low ne)) (lt-ltb (key i) 256 (subst (λ (y : ℕ). y < 256) is low)));
          told = λ e. no_true e;
        }

    pub marks_end : length keys ≡ 256 → KeysListed keys places → length places ≡ i → Marked keys marks true
    marks_end long listing h = record {
      once = sym (apart_end is_place long listing refl i (omega (arith, h)) m.apart);
      told = λ e p l. both_ways (eqb (get_or marks p 0) 1) (some (λ x. eqb x p) keys) (there p l) (back p l);
    }
      where
        there : (p : ℕ) → p < 256 → eqb (get_or marks p 0) 1 ≡ true → some (λ x. eqb x p) keys ≡ true
        there p l e =
            let b : Before i p = m.from p l (λ z. omega (arith, eqb-true (get_or marks p 0) 1 e, z)) in
            some_intro 0 (λ x. eqb x p) keys (get_or places b.at 0) (omega (arith, long, listing.low b.at (omega (arith, b.low, h))))
            (eq-eqb (key b.at) p b.here)

        back : (p : ℕ) → p < 256 → some (λ x. eqb x p) keys ≡ true → eqb (get_or marks p 0) 1 ≡ true
        back p l e =
            let w = some_elim 0 (λ x. eqb x p) keys e in
            let s : get_or keys w.place 0 ≡ p = eqb-true (get_or keys w.place 0) p w.passes in
            let q = spot keys places long listing w.place (omega (arith, w.low, long)) (λ z. omega (arith, z, s, l)) in
            let r : key q.at ≡ p = ap (λ (x : ℕ). get_or keys x 0) q.here ∙ s in
            let t : get_or marks (key q.at) 0 ≡ 1 = m.hit q.at (omega (arith, q.low, h)) (omega (arith, r, l)) in
            eq-eqb (get_or marks p 0) 1 (ap (λ (x : ℕ). get_or marks x 0) (sym r) ∙ t)

  -- ---- the dead keys, listed one after the other
  abbrev listed : ℕ → List ℕ → ℕ → Bool
  listed count dead x = list_any (λ y. eqb y x) (take count dead)

  pub record Dead (i count : ℕ) (dead : List ℕ) : Type 0 where
    pub long : length dead ≡ 256
    pub few : count ≤ i
    pub apart : Apart is_dead i
    pub hit : (a : ℕ) → a < i → 256 < key a → listed count dead (key a) ≡ true
    pub from : (x : ℕ) → listed count dead x ≡ true → Before i x

  module _ (i count : ℕ) (dead : List ℕ) (m : Dead i count dead) where
    -- one turn, with x the key there
    module _ (x : ℕ) (is : x ≡ key i) where
      pub dead_skip : x ≤ 256 → Dead (i + 1) count dead
      dead_skip h = record {
        long = m.long;
        few = omega (arith, m.few);
        apart = apart_more is_dead i m.apart (λ c. absurd (omega (arith, ltb-true 256 (key i) c, is, h)));
        hit = below_more (λ a. 256 < key a → listed count dead (key a) ≡ true) i m.hit (λ k. absurd (omega (arith, is, h, k)));
        from = λ y e. later i y (m.from y e);
      }

      module _ (high : 256 < x) where
        pub dead_more : i < 256 → listed count dead x ≡ false → Dead (i + 1) (count + 1) (set dead count x)
        dead_more room new = record {
          long = length-set dead count x ∙ m.long;
          few = omega (arith, m.few);
          apart = apart_more is_dead i m.apart (λ c a l d s. clash a l (s ∙ sym is));
          hit = hit;
          from = from;
        }
          where
            clash : (a : ℕ) → a < i → key a ≡ x → ⊥
            clash a l s = contradiction (subst (λ (y : ℕ). listed count dead y ≡ true) s (m.hit a l (omega (arith, s, high)))) new

            one_more : (y : ℕ) → listed (count + 1) (set dead count x) y ≡ (listed count dead y || eqb x y)
            one_more y =
                let e : take (count + 1) (set dead count x) ≡ take count dead ++ (x ∷ [])
                = rw add-one (take-suc-set dead count x (omega (arith, m.few, m.long, room))) in
                ap (list_any (λ z. eqb z y)) e ∙ list_any-append (λ z. eqb z y) (take count dead) (x ∷ []) ∙ ap (λ (r : Bool). listed count dead y || r) (or-false (eqb x y))

            hit : (a : ℕ) → a < i + 1 → 256 < key a → listed (count + 1) (set dead count x) (key a) ≡ true
            hit =
                below_more (λ a. 256 < key a → listed (count + 1) (set dead count x) (key a) ≡ true) i
                (λ a l k. one_more (key a) ∙ or_left (eqb x (key a)) (m.hit a l k))
                (λ k. one_more (key i) ∙ or_right (listed count dead (key i)) (eq-eqb x (key i) is))

            from : (y : ℕ) → listed (count + 1) (set dead count x) y ≡ true → Before (i + 1) y
            from y e = go (case (eqb x y))
              where
                go : Case (eqb x y) → Before (i + 1) y
                go (pass f) = record { at = i; low = omega arith; here = sym is ∙ eqb-true x y f }
                go (fail f) = later i y (m.from y (or_first (listed count dead y) (eqb x y) (sym (one_more y) ∙ e) f))
                  where
                    or_first : (a b : Bool) → (a || b) ≡ true → b ≡ false → a ≡ true
                    or_first true b h g = refl
                    or_first false b h g = sym g ∙ h

        pub dead_not : length keys ≡ 256 → KeysListed keys places → i < length places → listed count dead x ≡ true → false ≡ no_two is_dead eqb keys
        dead_not long listing l e =
            sym (apart_not is_dead long listing i l (subst (Before i) is (m.from x e)) (lt-ltb 256 (key i) (subst (λ (y : ℕ). 256 < y) is high)))

    pub dead_end : length keys ≡ 256 → KeysListed keys places → length places ≡ i → true ≡ no_two is_dead eqb keys
    dead_end long listing h = sym (apart_end is_dead long listing refl i (omega (arith, h)) m.apart)
