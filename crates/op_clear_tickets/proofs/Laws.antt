-- Places cleared one after the other: no place yet, one more, and what the image then holds.
use Prim.Native.Nat.{ℕ, ◌+◌, ◌/◌, ◌%◌, ◌<◌}
use native.Mathlib.Omega.{arith}
use mathlib.Core.Path.{◌≡◌, refl, sym, ap, subst, ◌∙◌}
use mathlib.Core.Bool.{Bool, true, false, ◌&&◌, cond}
use mathlib.Core.List.{List}
use lib.Dec.{eqb, leb, ltb}
use lib.ListN.{get_or, set}
use lib.Seq.{get_or-set_same, get_or-set_other}
use borrow.Author.Tests.{eqb-true, eqb-false, leb-true, le-leb, ltb-true, lt-ltb}
use Rattle.lists.proofs.Tests.{Case, pass, fail, case, cannot_pass, both_ways, and_l, and_r, and_intro, and_false}
use Rattle.tables.specs.declared.{Name.Name, Ticket.Ticket}
use Rattle.tables.specs.Kinds.{is_live}
use Rattle.tables.specs.Names.{free}
use Rattle.tables.specs.Change.{drop_ticket, drop_tickets}
use Rattle.tables.proofs.Programs.{dropped_sized}
use Rattle.image.specs.Image.{decode, is_image}
use Rattle.image_read.specs.Places.{tickets_in, lasts_in, entries_in}
use Rattle.image_read.proofs.Places.{tickets_long, entries_decoded}
use Rattle.image_places.specs.Places.{placed, name_at}
use Rattle.image_find.proofs.Laws.{flattened, decoded_sized}
use Rattle.image_write.specs.Shows.{Shows, Holds}
use Rattle.image_write.proofs.ToTables.{holds, dropped_flat}
use Rattle.op_clear_tickets.specs.Cleared.{among, clear_at, Cleared}

-- ---- the places from `start` on
module _ (start : ℕ) where
  -- what a place among them tells
  pub record Among (size p : ℕ) : Type 0 where
    pub low : leb start p ≡ true
    pub high : ltb p (start + size) ≡ true

  pub is_among : (size p : ℕ) → among start size p ≡ true → Among size p
  is_among size p e = record { low = and_l (leb start p) (ltb p (start + size)) e; high = and_r (leb start p) (ltb p (start + size)) e }

  outside : (size p : ℕ) → start + size ≡ p → among start size p ≡ false
  outside size p h = cannot_pass (among start size p) (λ e. omega (arith, h, ltb-true p (start + size) (is_among size p e).high))

  none_among : (p : ℕ) → among start 0 p ≡ false
  none_among p =
      cannot_pass (among start 0 p)
      (λ e. omega (arith, leb-true start p (is_among 0 p e).low, ltb-true p (start + 0) (is_among 0 p e).high))

  among_last : (i : ℕ) → among start (i + 1) (start + i) ≡ true
  among_last i = and_intro (le-leb start (start + i) (omega arith)) (lt-ltb (start + i) (start + (i + 1)) (omega arith))

  among_more : (i p : ℕ) → (p ≡ start + i → ⊥) → among start (i + 1) p ≡ among start i p
  among_more i p ne =
      ap (λ (b : Bool). leb start p && b)
      (both_ways (ltb p (start + (i + 1))) (ltb p (start + i))
      (λ e. lt-ltb p (start + i) (omega (arith, ltb-true p (start + (i + 1)) e, ne)))
      (λ e. lt-ltb p (start + (i + 1)) (omega (arith, ltb-true p (start + i) e))))

module _ (start : ℕ) (gone : ℕ → Ticket → Bool) where
  -- ---- one ticket
  clear_outside : (size p : ℕ) (k : Ticket) → among start size p ≡ false → clear_at start size gone p k ≡ k
  unfolding clear_at
  clear_outside size p k e = ap (λ (b : Bool). cond (b && gone p k) free k) e

  clear_same : (size size' p : ℕ) (k : Ticket) → among start size p ≡ among start size' p → clear_at start size gone p k ≡ clear_at start size' gone p k
  unfolding clear_at
  clear_same size size' p k e = ap (λ (b : Bool). cond (b && gone p k) free k) e

  clear_gone : (size p : ℕ) (k : Ticket) → among start size p ≡ true → gone p k ≡ true → clear_at start size gone p k ≡ free
  unfolding clear_at
  clear_gone size p k e g = ap (λ (b : Bool). cond b free k) (and_intro e g)

  clear_kept : (size p : ℕ) (k : Ticket) → gone p k ≡ false → clear_at start size gone p k ≡ k
  unfolding clear_at
  clear_kept size p k g =
      ap (λ (b : Bool). cond b free k) (ap (λ (b : Bool). among start size p && b) g ∙ and_false (among start size p))

  module _ (before : List ℕ) where
    -- what stood at a place
    abbrev pub stood : ℕ → Ticket
    stood p = get_or (tickets_in before) p free

    pub cleared_none : is_image before ≡ true → Cleared start 0 gone before before
    cleared_none is = record { is = is; tickets = λ p h. sym (clear_outside 0 p (stood p) (none_among start p)); lasts = refl; entries = refl }

    -- ---- one place more
    module _ (i : ℕ) (after : List ℕ) (c : Cleared start i gone before after) (low : start + i < 256) where
      pub stands_yet : get_or (tickets_in after) (start + i) free ≡ stood (start + i)
      stands_yet = c.tickets (start + i) low ∙ clear_outside i (start + i) (stood (start + i)) (outside start i (start + i) refl)

      pub cleared_gone : (place : ℕ) → place ≡ start + i → (next : List ℕ) (x : Ticket) → x ≡ free
          → Shows next (set (tickets_in after) place x) (lasts_in after) (entries_in after) → gone (start + i) (stood (start + i)) ≡ true
          → Cleared start (i + 1) gone before next
      cleared_gone place there next x e s g = record {
        is = s.is;
        tickets = λ p h.
            ap (λ (l : List Ticket). get_or l p free) s.tickets
            ∙ ap (λ (q : ℕ). get_or (set (tickets_in after) q x) p free) there ∙ at p h (case (eqb p (start + i)));
        lasts = s.lasts ∙ c.lasts;
        entries = s.entries ∙ c.entries;
      }
        where
          at : (p : ℕ) → p < 256 → Case (eqb p (start + i)) → get_or (set (tickets_in after) (start + i) x) p free ≡ clear_at start (i + 1) gone p (stood p)
          at p h (pass q) =
              rw (eqb-true p (start + i) q)
              (get_or-set_same (tickets_in after) (start + i) x free (omega (arith, low, tickets_long after)) ∙ e
              ∙ sym (clear_gone (i + 1) (start + i) (stood (start + i)) (among_last start i) g))
          at p h (fail q) =
              get_or-set_other (tickets_in after) (start + i) p x free (eqb-false p (start + i) q) ∙ c.tickets p h
              ∙ sym (clear_same (i + 1) i p (stood p) (among_more start i p (eqb-false p (start + i) q)))

      pub cleared_kept : gone (start + i) (stood (start + i)) ≡ false → Cleared start (i + 1) gone before after
      cleared_kept g = record { is = c.is; tickets = λ p h. at p h (case (eqb p (start + i))); lasts = c.lasts; entries = c.entries }
        where
          at : (p : ℕ) → p < 256 → Case (eqb p (start + i)) → get_or (tickets_in after) p free ≡ clear_at start (i + 1) gone p (stood p)
          at p h (pass q) =
              rw (eqb-true p (start + i) q) (stands_yet ∙ sym (clear_kept (i + 1) (start + i) (stood (start + i)) g))
          at p h (fail q) = c.tickets p h ∙ sym (clear_same (i + 1) i p (stood p) (among_more start i p (eqb-false p (start + i) q)))

    -- ---- the tables that it holds, where the test of places is one of names
    module _ (size : ℕ) (after : List ℕ) (c : Cleared start size gone before after) (names : Name → Bool)
        (agree : (p : ℕ) → p < 256
        → (among start size p && gone p (placed (decode before) p)) ≡ (is_live (placed (decode before) p).kind && names (name_at p (placed (decode before) p)))) where
      ticket_dropped : (p : ℕ) → p < 256 → get_or (tickets_in after) p free ≡ drop_ticket names (p / 64) (p / 8 % 8) (stood p)
      unfolding clear_at drop_ticket
      ticket_dropped p h =
          c.tickets p h
          ∙ subst (λ (k : Ticket). clear_at start size gone p k ≡ drop_ticket names (p / 64) (p / 8 % 8) k) (sym ((flattened before).same p h))
          (ap (λ (b : Bool). cond b free (placed (decode before) p)) (agree p h))

      entries_kept_lem : (drop_tickets names (decode before)).entries ≡ entries_in before
      unfolding drop_tickets
      entries_kept_lem = sym (entries_decoded before)

      pub holds_dropped : Holds after (drop_tickets names (decode before))
      holds_dropped =
          holds (drop_tickets names (decode before)) (dropped_sized names (decode before) (decoded_sized before))
          (dropped_flat names (decode before) (tickets_in before) (tickets_in after) (lasts_in before) (flattened before) (tickets_long after) ticket_dropped)
          entries_kept_lem
          (record { is = c.is; tickets = refl; lasts = c.lasts; entries = c.entries })
