-- Removal by marks is removal by names, where marks and names agree on the pad's live tickets and the names pick none on other pads.
use Prim.Native.Nat.{ℕ, ◌+◌, ◌-◌, ◌*◌, ◌/◌, ◌%◌, ◌<◌}
use native.Mathlib.Omega.{arith}
use mathlib.Core.Path.{◌≡◌, refl, sym, ap, subst, ◌∙◌}
use mathlib.Core.Bool.{Bool, true, false, ◌&&◌, ◌||◌}
use mathlib.Core.List.{List}
use lib.ListN.{length, get_or}
use borrow.Author.Tests.{eq-eqb, ne_eqb, leb-true, le-leb, ltb-true, lt-ltb}
use Rattle.lists.proofs.Tests.{contradiction, and_intro}
use Rattle.lists.proofs.PartLaws.{get_or_tabulate}
use Rattle.tables.specs.declared.{Name.Name, Tables.Tables}
use Rattle.tables.specs.Kinds.{is_live, is_head}
use Rattle.tables.specs.Names.{name_of}
use Rattle.tables.specs.Lookup.{Sized, tickets_of, lookup, ticket_in}
use Rattle.tables.specs.Chains.{at_or_under}
use Rattle.tables.specs.Change.{drop_tickets}
use Rattle.tables.proofs.KindLaws.{live_head}
use Rattle.tables.proofs.ByPlace.{ticket_at, name_in_range}
use Rattle.image.specs.Image.{decode}
use Rattle.image_places.specs.Places.{placed, name_at}
use Rattle.image_find.proofs.Laws.{decoded_sized}
use Rattle.image_write.specs.Shows.{Holds}
use Rattle.image_pads.specs.Places.{on_pad}
use Rattle.image_pads.proofs.Rows.{on_pad_lem}
use Rattle.op_clear_tickets.specs.Cleared.{is_marked, among, Cleared}
use Rattle.op_drop_tickets.specs.Marks.{also_under, goes, under_on, marks_of}
use Rattle.op_drop_tickets.specs.Docked.{docked_with, docked_to, docked_on, Heads}
use Rattle.op_drop_tickets.specs.Linked.{Linked}
use Rattle.op_clear_tickets.proofs.Laws.{is_among, holds_dropped}
use Rattle.op_drop_tickets.proofs.Names.{live_named, own_index}
use Rattle.op_drop_tickets.proofs.Walks.{place, Here, here_at, name_marks, leads, Away, name_missed, far}

-- a live ticket goes by its mark where places are marked, and stays elsewhere
picks : (w l m n : Bool) → (l ≡ true → w ≡ true → m ≡ n) → (l ≡ true → w ≡ false → n ≡ false) → (w && (l && m)) ≡ (l && n)
picks true true m n here elsewhere = here refl refl
picks true false m n here elsewhere = refl
picks false true m n here elsewhere = sym (elsewhere refl refl)
picks false false m n here elsewhere = refl

pub mark_at : (test : ℕ → Bool) (i : ℕ) → i < 64 → get_or (marks_of test) i false ≡ test i
unfolding marks_of
mark_at test i h = get_or_tabulate 64 test i false h

-- the test by places agrees with the names on the pad's live tickets
abbrev pub Agrees : Tables → ℕ → (ℕ → Bool) → (Name → Bool) → Type 0
Agrees t a test names =
    (b i : ℕ) → b < 8 → i < 8 → is_live (ticket_at t a b i).kind ≡ true → test (8 * b + i) ≡ names (name_of a b (ticket_at t a b i).number)

-- the names pick no live ticket of another pad
abbrev pub Spares : Tables → ℕ → (Name → Bool) → Type 0
Spares t a names = (n : Name) → (n.pad ≡ a → ⊥) → is_live (lookup t n).kind ≡ true → names n ≡ false

module _ (before after : List ℕ) (marks : List Bool) (a : ℕ) (c : Cleared (64 * a) 64 (λ p. is_marked marks (p - 64 * a)) before after) where
  abbrev t : Tables
  t = decode before

  z : Sized t
  z = decoded_sized before

  module _ (test : ℕ → Bool) (e : marks ≡ marks_of test) (names : Name → Bool) (agrees : Agrees t a test names) (spares : Spares t a names) where
    module _ (p : ℕ) (h : p < 256) (l : is_live (placed t p).kind ≡ true) where
      on_the_pad : p / 64 ≡ a → get_or marks (p - 64 * a) false ≡ names (name_at p (placed t p))
      on_the_pad q =
          let b : ℕ = p / 8 % 8 in
          let j : p - 64 * a ≡ 8 * b + p % 8 = omega (arith, q) in
          ap (λ (m : List Bool). get_or m (p - 64 * a) false) e ∙ mark_at test (p - 64 * a) (omega (arith, q)) ∙ ap test j
          ∙ subst (λ (m : ℕ). is_live (ticket_at t m b (p % 8)).kind ≡ true → test (8 * b + p % 8) ≡ names (name_of m b (ticket_at t m b (p % 8)).number)) (sym q)
          (agrees b (p % 8) (omega arith) (omega arith)) l

      on_another : (p / 64 ≡ a → ⊥) → names (name_at p (placed t p)) ≡ false
      on_another ne =
          let d : p % 8 < length (tickets_of t (p / 64) (p / 8 % 8)) = omega (arith, z.tickets (p / 64) (p / 8 % 8) (omega (arith, h)) (omega arith)) in
          spares (name_at p (placed t p)) ne (live_named t (p / 64) (p / 8 % 8) (p % 8) d l)

    by_marks : (p : ℕ) → p < 256
        → (among (64 * a) 64 p && is_marked marks (p - 64 * a) (placed t p)) ≡ (is_live (placed t p).kind && names (name_at p (placed t p)))
    by_marks p h =
        picks (among (64 * a) 64 p) (is_live (placed t p).kind) (get_or marks (p - 64 * a) false) (names (name_at p (placed t p)))
        (λ l w.
        let i = is_among (64 * a) 64 p w in
        on_the_pad p h l (omega (arith, leb-true (64 * a) p i.low, ltb-true p (64 * a + 64) i.high)))
        (λ l w.
        on_another p h l
        (λ q. contradiction (and_intro (le-leb (64 * a) p (omega (arith, q))) (lt-ltb p (64 * a + 64) (omega (arith, q)))) w))

    holds_unmarked : Holds after (drop_tickets names t)
    holds_unmarked = holds_dropped (64 * a) (λ p. is_marked marks (p - 64 * a)) before 64 after c names by_marks

-- ---- live tickets of a pad, where numbers are distinct
module _ (t : Tables) (z : Sized t) (link : Linked t) (a : ℕ) (low : a < 4) where
  module _ (b i : ℕ) (b8 : b < 8) (i8 : i < 8) (l : is_live (ticket_at t a b i).kind ≡ true) where
    there : i < length (tickets_of t a b)
    there = omega (arith, i8, z.tickets a b low b8)

    abbrev its_name : Name
    its_name = name_of a b (ticket_at t a b i).number

    its_own : Here t z link a low its_name
    its_own = record { pad = refl; live = live_named t a b i there l }

    its_place : place t z link a low its_name ≡ 8 * b + i
    its_place =
        (here_at t z link a low its_name its_own).here ∙ ap (λ (j : ℕ). 8 * b + j) (own_index t a b i there l (link.distinct a b low b8))

    its_ticket : lookup t its_name ≡ ticket_at t a b i
    unfolding lookup ticket_in
    its_ticket = ap (λ (j : ℕ). ticket_at t a b j) (own_index t a b i there l (link.distinct a b low b8))

-- ---- `also`, x and all under x
module _ (t : Tables) (z : Sized t) (link : Linked t) (also x : Name) (low : x.pad < 4) (beside : also.pad ≡ x.pad) where
  pub under_agrees : Agrees t x.pad (under_on t also x) (also_under t also x)
  unfolding under_on goes
  under_agrees b i b8 i8 l =
      let n : Name = its_name t z link x.pad low b i b8 i8 l in
      let h : Here t z link x.pad low n = its_own t z link x.pad low b i b8 i8 l in
      ap (under_on t also x) (sym (its_place t z link x.pad low b i b8 i8 l))
      ∙ (λ j. name_marks t z link x.pad low also beside n h j
      || leads t z link x.pad low 64 n h (place t z link x.pad low x) x (name_marks t z link x.pad low x refl) j)

  pub under_spares : Spares t x.pad (also_under t also x)
  under_spares n ne l =
      let h : Away t z link x.pad low n = record { pad = ne; live = l } in
      λ j. name_missed t z link x.pad low also beside n h j || far t z link x.pad low 64 n h x (name_missed t z link x.pad low x refl) j

pub under_removed : (before after : List ℕ) (marks : List Bool) → Linked (decode before) → (also x : Name) → x.pad < 4 → also.pad ≡ x.pad
    → marks ≡ marks_of (under_on (decode before) also x) → (pad : ℕ) → pad ≡ x.pad
    → Cleared (64 * pad) 64 (λ p. is_marked marks (p - 64 * pad)) before after
    → Holds after (drop_tickets (also_under (decode before) also x) (decode before))
under_removed before after marks link also x low beside e pad q c =
    holds_unmarked before after marks x.pad
    (subst (λ (a : ℕ). Cleared (64 * a) 64 (λ p. is_marked marks (p - 64 * a)) before after) q c) (under_on (decode before) also x) e
    (also_under (decode before) also x)
    (under_agrees (decode before) (decoded_sized before) link also x low beside) (under_spares (decode before) (decoded_sized before) link also x low beside)

-- ---- the head of a chain and all under it
module _ (t : Tables) (z : Sized t) (link : Linked t) (heads : Heads t) (h : Name) (is : is_head (lookup t h).kind ≡ true) where
  pub head_low : h.pad < 4
  head_low = (name_in_range t z h (live_head (lookup t h).kind is)).pad

  head_agrees : Agrees t h.pad (docked_on t h) (at_or_under t h)
  unfolding docked_on docked_to
  head_agrees b i b8 i8 l =
      let n : Name = its_name t z link h.pad head_low b i b8 i8 l in
      let m : (8 * b + i) / 8 ≡ b = omega (arith, i8) in
      let k : on_pad t h.pad (8 * b + i) ≡ lookup t n = on_pad_lem t h.pad b i b8 i8 ∙ sym (its_ticket t z link h.pad head_low b i b8 i8 l) in
      (λ j. docked_with t h (name_of h.pad (m j) 0) (k j))
      ∙ sym (heads.under h n is (its_own t z link h.pad head_low b i b8 i8 l).live ∙ ap (λ (v : Bool). v && docked_to t h n) (eq-eqb h.pad h.pad refl))

  head_spares : Spares t h.pad (at_or_under t h)
  head_spares n ne l = heads.under h n is l ∙ ap (λ (v : Bool). v && docked_to t h n) (ne_eqb n.pad h.pad ne)

pub head_removed : (before after : List ℕ) (marks : List Bool) → Linked (decode before) → Heads (decode before) → (h : Name) → is_head (lookup (decode before) h).kind ≡ true
    → marks ≡ marks_of (docked_on (decode before) h) → (pad : ℕ) → pad ≡ h.pad
    → Cleared (64 * pad) 64 (λ p. is_marked marks (p - 64 * pad)) before after
    → Holds after (drop_tickets (at_or_under (decode before) h) (decode before))
head_removed before after marks link heads h is e pad q c =
    holds_unmarked before after marks h.pad
    (subst (λ (a : ℕ). Cleared (64 * a) 64 (λ p. is_marked marks (p - 64 * a)) before after) q c) (docked_on (decode before) h) e
    (at_or_under (decode before) h)
    (head_agrees (decode before) (decoded_sized before) link heads h is) (head_spares (decode before) (decoded_sized before) link heads h is)
