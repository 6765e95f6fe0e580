-- Noting the entries, one after the other. After i of them each live one has its place noted at its grant's place, and every note is one of
-- theirs. So a note that is there already is of an entry before that names the same place; and where each finds its place without a note,
-- no two name one.
use Prim.Native.Nat.{ℕ, ◌+◌, ◌≤◌, ◌<◌}
use native.Mathlib.Omega.{arith}
use mathlib.Core.Path.{◌≡◌, sym, ap, subst, ◌∙◌}
use mathlib.Core.Bool.{Bool, true, false, ◌&&◌}
use mathlib.Core.List.{List}
use lib.Dec.{eqb}
use lib.ListN.{length, get_or, set, replicate, length-replicate, length-set, get_or-eq_default}
use lib.Seq.{get_or-set_same, get_or-set_other}
use borrow.Author.Tests.{eqb-true, eqb-false, eq-eqb}
use borrow.Author.Count.{below_more}
use Rattle.lists.specs.Tests.{implies}
use Rattle.lists.proofs.Tests.{Case, pass, fail, case, contradiction, cannot_pass, and_l, and_r, and_intro, implies_intro, implies_elim, and_false}
use Rattle.lists.proofs.Everywhere.{all_intro, all_elim, no_two_intro, no_two_elim}
use Rattle.lists.proofs.Reading.{same_all}
use Rattle.tables.specs.declared.{Ticket.Ticket, Entry.Entry}
use Rattle.tables.specs.Names.{no_name, eq_name, free, no_entry}
use Rattle.tables.specs.Order.{under_store, grant_ok}
use Rattle.order_entry_notes.specs.Notes.{every_live, place_of, has_grant, GrantAt, names_apart, Noter, NotesOf}

-- the free record is no grant
no_grant : (e : Entry) → grant_ok e free ≡ false
unfolding grant_ok
no_grant e = go (case (under_store e))
  where
    go : Case (under_store e) → grant_ok e free ≡ false
    go (pass p) = rw (p, and_false (eq_name e.parent no_name))
    go (fail p) = rw p

module _ (tickets : List Ticket) (numbers : List ℕ) where
  -- as the code finds it
  has_at : (e : Entry) (p : ℕ) → p ≡ place_of numbers e → (k : Ticket) → k ≡ get_or tickets p free → (b : Bool) → b ≡ grant_ok e k → has_grant tickets numbers e ≡ b
  unfolding has_grant
  has_at e p q k z b r = ap (λ (x : ℕ). grant_ok e (get_or tickets x free)) (sym q) ∙ ap (grant_ok e) (sym z) ∙ sym r

  -- the grant's place: as it is found, or not
  module _ (e : Entry) (p : ℕ) (place : p ≡ place_of numbers e) where
    pub place_missing : length tickets ≤ p → has_grant tickets numbers e ≡ false
    place_missing h = has_at e p place free (sym (get_or-eq_default tickets free h)) false (sym (no_grant e))

    module _ (k : Ticket) (here : k ≡ get_or tickets p free) (b : Bool) (asked : b ≡ grant_ok e k) where
      pub place_unfit : b ≡ false → has_grant tickets numbers e ≡ false
      place_unfit f = has_at e p place k here b asked ∙ f

      pub place_fit : b ≡ true → p < 256 → GrantAt tickets numbers e p
      place_fit y h = record { low = h; place = place; suits = has_at e p place k here b asked ∙ y }

module _ (tickets : List Ticket) (numbers : List ℕ) (es : List Entry) where
  abbrev at : ℕ → Entry
  at j = get_or es j no_entry

  abbrev has : Entry → Bool
  has e = has_grant tickets numbers e

  -- the first i entries
  pub record SoFar (i : ℕ) (notes : List ℕ) : Type 0 where
    pub grants : (j : ℕ) → j < i → (at j).live ≡ true → has (at j) ≡ true
    pub kept : NotesOf numbers es i notes

  pub noted_none : (notes : List ℕ) → notes ≡ replicate {A = ℕ} 256 256 → SoFar 0 notes
  noted_none notes e = record {
    grants = λ j h. absurd (omega arith);
    kept = record {
      long = ap length e ∙ length-replicate {A = ℕ} 256 256;
      noted = λ j h. absurd (omega arith);
      noter = λ p ne. absurd (ne (ap (λ (l : List ℕ). get_or l p 256) e ∙ same_all {A = ℕ} 256 256 p));
    };
  }

  -- one more: what the code reads is the entry at i
  module _ (i : ℕ) (notes : List ℕ) (so : SoFar i notes) (read : Entry) (this : read ≡ at i) where
    later : (p j : ℕ) → Noter numbers es i p j → Noter numbers es (i + 1) p j
    later p j n = record { low = omega (arith, n.low); live = n.live; place = n.place }

    pub noted_skip : read.live ≡ false → SoFar (i + 1) notes
    noted_skip d = record {
      grants = below_more (λ j. (at j).live ≡ true → has (at j) ≡ true) i so.grants (λ l. contradiction l gone);
      kept = record {
        long = so.kept.long;
        noted = below_more (λ j. (at j).live ≡ true → get_or notes (place_of numbers (at j)) 256 ≡ j) i so.kept.noted (λ l. contradiction l gone);
        noter = λ p ne. later p (get_or notes p 256) (so.kept.noter p ne);
      };
    }
      where
        gone : (at i).live ≡ false
        gone = ap (λ (e : Entry). e.live) (sym this) ∙ d

    module _ (h : i < length es) (lives : read.live ≡ true) (p : ℕ) (place : p ≡ place_of numbers read) where
      live : (at i).live ≡ true
      live = ap (λ (e : Entry). e.live) (sym this) ∙ lives

      here : p ≡ place_of numbers (at i)
      here = place ∙ ap (place_of numbers) this

      pub noted_bad : has read ≡ false → (every_live has es && names_apart numbers es) ≡ false
      noted_bad b = cannot_pass (every_live has es && names_apart numbers es) bad
        where
          bad : (every_live has es && names_apart numbers es) ≡ true → ⊥
          bad e =
              contradiction
              (implies_elim (at i).live (has (at i)) (all_elim no_entry (λ x. implies x.live (has x)) es (and_l (every_live has es) (names_apart numbers es) e) i h) live)
              (ap has (sym this) ∙ b)

      pub noted_twice : get_or notes p 256 < 256 → (every_live has es && names_apart numbers es) ≡ false
      unfolding names_apart
      noted_twice b = cannot_pass (every_live has es && names_apart numbers es) two
        where
          first : Noter numbers es i p (get_or notes p 256)
          first = so.kept.noter p (λ z. omega (arith, z, b))

          two : (every_live has es && names_apart numbers es) ≡ true → ⊥
          two e =
              contradiction (eq-eqb (place_of numbers (at (get_or notes p 256))) (place_of numbers (at i)) (first.place ∙ here))
              (no_two_elim no_entry (λ x. x.live) (λ x y. eqb (place_of numbers x) (place_of numbers y)) es (and_r (every_live has es) (names_apart numbers es) e)
              (get_or notes p 256) i first.low h first.live live)

      module _ (small : i < 256) (low : p < 256) (grant : has read ≡ true) (none : 256 ≤ get_or notes p 256) where
        -- what is no entry's place is no note
        clear : get_or notes p 256 ≡ 256
        clear = go (case (eqb (get_or notes p 256) 256))
          where
            go : Case (eqb (get_or notes p 256) 256) → get_or notes p 256 ≡ 256
            go (pass e) = eqb-true (get_or notes p 256) 256 e
            go (fail e) = absurd (omega (arith, (so.kept.noter p (eqb-false (get_or notes p 256) 256 e)).low, none, small))

        new : get_or (set notes p i) p 256 ≡ i
        new = get_or-set_same notes p i 256 (omega (arith, so.kept.long, low))

        old : (q : ℕ) → (q ≡ p → ⊥) → get_or (set notes p i) q 256 ≡ get_or notes q 256
        old q ne = get_or-set_other notes p q i 256 ne

        pub noted_more : SoFar (i + 1) (set notes p i)
        noted_more = record {
          grants = below_more (λ j. (at j).live ≡ true → has (at j) ≡ true) i so.grants (λ l. ap has (sym this) ∙ grant);
          kept = record {
            long = length-set notes p i ∙ so.kept.long;
            noted = below_more (λ j. (at j).live ≡ true → get_or (set notes p i) (place_of numbers (at j)) 256 ≡ j) i before
                (λ l. ap (λ (x : ℕ). get_or (set notes p i) x 256) (sym here) ∙ new);
            noter = λ q ne. noter_at q ne (case (eqb q p));
          };
        }
          where
            before : (j : ℕ) → j < i → (at j).live ≡ true → get_or (set notes p i) (place_of numbers (at j)) 256 ≡ j
            before j b l =
                let e = so.kept.noted j b l in
                old (place_of numbers (at j))
                (λ q. let z : j ≡ 256 = sym e ∙ ap (λ (x : ℕ). get_or notes x 256) q ∙ clear in omega (arith, z, b, small)) ∙ e

            noter_at : (q : ℕ) → (get_or (set notes p i) q 256 ≡ 256 → ⊥) → Case (eqb q p) → Noter numbers es (i + 1) q (get_or (set notes p i) q 256)
            noter_at q ne (pass e) =
                let z : q ≡ p = eqb-true q p e in
                subst (λ (j : ℕ). Noter numbers es (i + 1) q j) (sym (ap (λ (x : ℕ). get_or (set notes p i) x 256) z ∙ new))
                (record { low = omega arith; live = live; place = sym here ∙ sym z })
            noter_at q ne (fail e) =
                let z = old q (eqb-false q p e) in
                subst (λ (j : ℕ). Noter numbers es (i + 1) q j) (sym z) (later q (get_or notes q 256) (so.kept.noter q (λ x. ne (z ∙ x))))

  pub noted_end : (i : ℕ) (notes : List ℕ) → length es ≡ i → SoFar i notes → (every_live has es && names_apart numbers es) ≡ true
  unfolding names_apart
  noted_end i notes h so =
      and_intro (all_intro no_entry (λ x. implies x.live (has x)) es (λ j b. implies_intro (at j).live (has (at j)) (so.grants j (omega arith))))
      (no_two_intro no_entry (λ x. x.live) (λ x y. eqb (place_of numbers x) (place_of numbers y)) es
      (λ j k p q l m. cannot_pass (eqb (place_of numbers (at j)) (place_of numbers (at k))) (two j k p (omega arith) l m)))
    where
      two : (j k : ℕ) → j < k → k < i → (at j).live ≡ true → (at k).live ≡ true → eqb (place_of numbers (at j)) (place_of numbers (at k)) ≡ true → ⊥
      two j k p q l m e =
          let s : j ≡ k
          = sym (so.kept.noted j (omega arith) l)
          ∙ ap (λ (x : ℕ). get_or notes x 256) (eqb-true (place_of numbers (at j)) (place_of numbers (at k)) e)
          ∙ so.kept.noted k q m in
          omega arith
