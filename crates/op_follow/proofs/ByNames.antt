-- What was lent away by the marks of a pad is what was lent away by names, where marks and names agree on the pad and the names pick no
-- other pad's live ticket.
use Prim.Native.Nat.{ℕ, zero, suc, ◌+◌, ◌-◌, ◌*◌, ◌/◌, ◌%◌, ◌<◌}
use native.Mathlib.Omega.{arith}
use native.Mathlib.Nat.{eq-or-lt_of_le, le_of_suc-le-suc}
use mathlib.Core.Path.{◌≡◌, refl, sym, ap, ◌∙◌, subst, fun_ext}
use mathlib.Core.Logic.{◌⊎◌, inl, inr}
use mathlib.Core.Bool.{Bool, true, false, not, ◌&&◌, ◌||◌}
use mathlib.Core.List.{List}
use lib.Dec.{eqb}
use lib.ListN.{length, get_or}
use borrow.Author.Tests.{eqb-true, eqb-false}
use Rattle.lists.proofs.Tests.{Case, pass, fail, case, no_true, contradiction, or_left, or_right, and_l, and_r, and_intro, both_ways}
use Rattle.tables.specs.declared.{Name.Name, Ticket.Ticket, Tables.Tables}
use Rattle.tables.specs.Kinds.{is_recall}
use Rattle.tables.specs.Names.{name_of}
use Rattle.tables.specs.Lookup.{Sized, tickets_of, lookup}
use Rattle.tables.specs.Chains.{at_or_below}
use Rattle.tables.specs.Change.{drop_tickets, drop_entries}
use Rattle.tables.proofs.KindLaws.{live_recall}
use Rattle.tables.proofs.ByPlace.{ticket_at, SomePlace, some_at_lem, some_from}
use Rattle.machine.specs.Recall.{lent_away}
use Rattle.image.specs.Image.{decode}
use Rattle.image_write.specs.Shows.{Holds}
use Rattle.image_find.proofs.Laws.{decoded_sized}
use Rattle.image_pads.specs.Places.{on_pad, numbers_of, ups_of}
use Rattle.image_pads.proofs.Rows.{on_pad_lem}
use Rattle.op_clear_tickets.specs.Cleared.{is_marked, Cleared}
use Rattle.op_drop_tickets.specs.Marks.{also_under, under_on, marks_of}
use Rattle.op_drop_tickets.specs.Linked.{Linked}
use Rattle.op_drop_tickets.proofs.Names.{live_named}
use Rattle.op_drop_tickets.proofs.Removal.{mark_at, Agrees, Spares, under_agrees, under_spares, under_removed}
use Rattle.op_follow.specs.Lent.{is_lending, lent_by, without_loan}

-- ---- the place that lends
record LentAt (t : Tables) (pad : ℕ) (marks : List Bool) (count : ℕ) (n : Name) : Type 0 where
  at : ℕ
  low : at < count
  lends : is_lending pad (get_or marks at false) (on_pad t pad at) ≡ true
  below : at_or_below t (on_pad t pad at).other n ≡ true

module _ (t : Tables) (pad : ℕ) (marks : List Bool) (n : Name) where
  lent_at : (count : ℕ) → lent_by t pad marks count n ≡ true → LentAt t pad marks count n
  unfolding lent_by
  lent_at zero e = no_true e
  lent_at (suc i) e = go (case (lent_by t pad marks i n)) (lent_at i)
    where
      go : Case (lent_by t pad marks i n) → (lent_by t pad marks i n ≡ true → LentAt t pad marks i n) → LentAt t pad marks (suc i) n
      go (pass h) ih = let f = ih h in record { at = f.at; low = omega (arith, f.low); lends = f.lends; below = f.below }
      go (fail h) ih =
          let w : (is_lending pad (get_or marks i false) (on_pad t pad i) && at_or_below t (on_pad t pad i).other n) ≡ true = rw h at e in
          record { at = i; low = omega arith; lends = and_l (is_lending pad (get_or marks i false) (on_pad t pad i)) _ w; below = and_r (is_lending pad (get_or marks i false) (on_pad t pad i)) _ w }

  at_lent : (count : ℕ) → LentAt t pad marks count n → lent_by t pad marks count n ≡ true
  unfolding lent_by
  at_lent zero f = absurd (omega (arith, f.low))
  at_lent (suc i) f = go (eq-or-lt_of_le (le_of_suc-le-suc f.low)) (at_lent i)
    where
      go : (f.at ≡ i) ⊎ (f.at < i) → (LentAt t pad marks i n → lent_by t pad marks i n ≡ true)
          → (lent_by t pad marks i n || (is_lending pad (get_or marks i false) (on_pad t pad i) && at_or_below t (on_pad t pad i).other n)) ≡ true
      go (inr l) ih = or_left _ (ih (record { at = f.at; low = l; lends = f.lends; below = f.below }))
      go (inl e) ih =
          or_right (lent_by t pad marks i n)
          (subst (λ (j : ℕ). (is_lending pad (get_or marks j false) (on_pad t pad j) && at_or_below t (on_pad t pad j).other n) ≡ true) e (and_intro f.lends f.below))

-- ---- by names
module _ (t : Tables) (z : Sized t) (a : ℕ) (low : a < 4) (test : ℕ → Bool) (names : Name → Bool) (agrees : Agrees t a test names) (spares : Spares t a names)
    (n : Name) where
  abbrev lends : Name → Ticket → Bool
  lends m k = names m && not (eqb k.other.pad m.pad) && at_or_below t k.other n

  record Parts (mark : Bool) (k : Ticket) : Type 0 where
    marked : mark ≡ true
    recall : is_recall k.kind ≡ true
    away : not (eqb k.other.pad a) ≡ true

  parts : (mark : Bool) (k : Ticket) → is_lending a mark k ≡ true → Parts mark k
  unfolding is_lending
  parts mark k e =
      let f₁ : mark ≡ true = search (and_l, and_r) depth 4 in
      let f₂ : is_recall k.kind ≡ true = search (and_l, and_r) depth 4 in
      let f₃ : not (eqb k.other.pad a) ≡ true = search (and_l, and_r) depth 4 in
      record { marked = f₁; recall = f₂; away = f₃ }

  whole : (mark : Bool) (k : Ticket) → Parts mark k → is_lending a mark k ≡ true
  unfolding is_lending
  whole mark k p = and_intro (and_intro p.marked p.recall) p.away

  to : lent_by t a (marks_of test) 64 n ≡ true → lent_away t names n ≡ true
  unfolding lent_away
  to e =
      let f = lent_at t a (marks_of test) n 64 e in
      let b = f.at / 8 in
      let j = f.at % 8 in
      let b8 : b < 8 = omega (arith, f.low) in
      let j8 : j < 8 = omega arith in
      let q : f.at ≡ 8 * b + j = omega arith in
      let k : on_pad t a f.at ≡ ticket_at t a b j = ap (on_pad t a) q ∙ on_pad_lem t a b j b8 j8 in
      let p : Parts (get_or (marks_of test) f.at false) (ticket_at t a b j) = subst (Parts (get_or (marks_of test) f.at false)) k (parts _ _ f.lends) in
      let d : j < length (tickets_of t a b) = omega (arith, j8, z.tickets a b low b8) in
      let m : names (name_of a b (ticket_at t a b j).number) ≡ true
      = sym (agrees b j b8 j8 (live_recall (ticket_at t a b j).kind p.recall)) ∙ ap test (sym q) ∙ sym (mark_at test f.at f.low) ∙ p.marked in
      some_at_lem t z is_recall lends a b j low b8 d
      (and_intro p.recall (and_intro (and_intro m p.away) (ap (λ (x : Ticket). at_or_below t x.other n) (sym k) ∙ f.below)))

  here_lent : (p : ℕ) → p ≡ a → (q i : ℕ) → q < 8 → i < length (tickets_of t p q) → is_recall (ticket_at t p q i).kind ≡ true
      → names (name_of p q (ticket_at t p q i).number) ≡ true → not (eqb (ticket_at t p q i).other.pad p) ≡ true → at_or_below t (ticket_at t p q i).other n ≡ true
      → LentAt t a (marks_of test) 64 n
  here_lent p e q i q8 il recall picked away below = fill (subst (λ (x : ℕ). i < length (tickets_of t x q)) e il)
      (subst (λ (x : ℕ). is_recall (ticket_at t x q i).kind ≡ true) e recall)
      (subst (λ (x : ℕ). names (name_of x q (ticket_at t x q i).number) ≡ true) e picked)
      (subst (λ (x : ℕ). not (eqb (ticket_at t x q i).other.pad x) ≡ true) e away)
      (subst (λ (x : ℕ). at_or_below t (ticket_at t x q i).other n ≡ true) e below)
    where
      fill : i < length (tickets_of t a q) → is_recall (ticket_at t a q i).kind ≡ true → names (name_of a q (ticket_at t a q i).number) ≡ true
          → not (eqb (ticket_at t a q i).other.pad a) ≡ true → at_or_below t (ticket_at t a q i).other n ≡ true → LentAt t a (marks_of test) 64 n
      fill il recall picked away below =
          let i8 : i < 8 = omega (arith, il, z.tickets a q low q8) in
          let k : on_pad t a (8 * q + i) ≡ ticket_at t a q i = on_pad_lem t a q i q8 i8 in
          let m : get_or (marks_of test) (8 * q + i) false ≡ true
          = mark_at test (8 * q + i) (omega arith) ∙ agrees q i q8 i8 (live_recall (ticket_at t a q i).kind recall) ∙ picked in
          record {
            at = 8 * q + i;
            low = omega arith;
            lends = ap (is_lending a (get_or (marks_of test) (8 * q + i) false)) k ∙ whole _ _ (record { marked = m; recall = recall; away = away });
            below = ap (λ (x : Ticket). at_or_below t x.other n) k ∙ below;
          }

  from : lent_away t names n ≡ true → lent_by t a (marks_of test) 64 n ≡ true
  unfolding lent_away
  from e = go (some_from t z is_recall lends e)
    where
      go : SomePlace t z is_recall lends → lent_by t a (marks_of test) 64 n ≡ true
      go w = on_pad_a (case (eqb w.pad a))
        where
          k : Ticket
          k = ticket_at t w.pad w.program w.place

          m : Name
          m = name_of w.pad w.program k.number

          recall : is_recall k.kind ≡ true
          recall = and_l (is_recall k.kind) _ w.here

          rest : lends m k ≡ true
          rest = and_r (is_recall k.kind) _ w.here

          picked : names m ≡ true
          picked = and_l (names m) _ (and_l (names m && not (eqb k.other.pad m.pad)) _ rest)

          away : not (eqb k.other.pad w.pad) ≡ true
          away = and_r (names m) _ (and_l (names m && not (eqb k.other.pad m.pad)) _ rest)

          below : at_or_below t k.other n ≡ true
          below = and_r (names m && not (eqb k.other.pad m.pad)) _ rest

          on_pad_a : Case (eqb w.pad a) → lent_by t a (marks_of test) 64 n ≡ true
          on_pad_a (fail h) =
              contradiction picked
              (spares m (eqb-false w.pad a h) (live_named t w.pad w.program w.place w.place_low (live_recall k.kind recall)))
          on_pad_a (pass h) = at_lent t a (marks_of test) n 64 (here_lent w.pad (eqb-true w.pad a h) w.program w.place w.program_low w.place_low recall picked away below)

  pub lent_by_names : lent_by t a (marks_of test) 64 n ≡ lent_away t names n
  lent_by_names = both_ways (lent_by t a (marks_of test) 64 n) (lent_away t names n) to from

-- ---- the whole
-- entries that go change nothing on the pads
pads_same : (cut : Name → Bool) (t : Tables) (also x : Name) → under_on (drop_entries cut t) also x ≡ under_on t also x
unfolding drop_entries under_on numbers_of ups_of
pads_same cut t also x = refl

swapped : (cut : Name → Bool) (t : Tables) (also x : Name)
    → drop_tickets (also_under (drop_entries cut t) also x) (drop_entries cut t) ≡ drop_entries cut (drop_tickets (also_under t also x) t)
unfolding drop_entries drop_tickets lookup
swapped cut t also x = refl

linked_kept : (cut : Name → Bool) (t : Tables) → Linked t → Linked (drop_entries cut t)
unfolding drop_entries lookup
linked_kept cut t l = record { distinct = l.distinct; numbered = l.numbered; parent = l.parent; near = l.near }

-- marks, then entries, then tickets: each step leaves what the next one reads as it was
pub followed : (before middle after : List ℕ) (marks : List Bool) → Linked (decode before) → (also x : Name) → x.pad < 4 → also.pad ≡ x.pad
    → marks ≡ marks_of (under_on (decode before) also x) → (pad : ℕ) → pad ≡ x.pad
    → Holds middle (drop_entries (lent_by (decode before) pad marks 64) (decode before))
    → Cleared (64 * pad) 64 (λ p. is_marked marks (p - 64 * pad)) middle after
    → Holds after (without_loan (decode before) also x)
followed before middle after marks link also x low beside e pad q holds c =
    let h = under_removed middle after marks link' also x low beside (e ∙ marks_same) pad q c in
    record { is = h.is; tables = h.tables ∙ tables_same }
  where
    link' : Linked (decode middle)
    link' = subst Linked (sym holds.tables) (linked_kept (lent_by (decode before) pad marks 64) (decode before) link)

    cut : Name → Bool
    cut = lent_by (decode before) pad marks 64

    marks_same : marks_of (under_on (decode before) also x) ≡ marks_of (under_on (decode middle) also x)
    marks_same =
        ap marks_of (sym (pads_same (lent_by (decode before) pad marks 64) (decode before) also x)) ∙ ap (λ (u : Tables). marks_of (under_on u also x)) (sym holds.tables)

    lent : (n : Name) → cut n ≡ lent_away (decode before) (also_under (decode before) also x) n
    lent n =
        ap (λ (ms : List Bool). lent_by (decode before) pad ms 64 n) e ∙ ap (λ (a : ℕ). lent_by (decode before) a (marks_of (under_on (decode before) also x)) 64 n) q
        ∙ lent_by_names (decode before) (decoded_sized before) x.pad low (under_on (decode before) also x) (also_under (decode before) also x)
        (under_agrees (decode before) (decoded_sized before) link also x low beside) (under_spares (decode before) (decoded_sized before) link also x low beside) n

    tables_same : drop_tickets (also_under (decode middle) also x) (decode middle) ≡ without_loan (decode before) also x
    tables_same =
        ap (λ (u : Tables). drop_tickets (also_under u also x) u) holds.tables
        ∙ swapped (lent_by (decode before) pad marks 64) (decode before) also x
        ∙ ap (λ (f : Name → Bool). drop_entries f (drop_tickets (also_under (decode before) also x) (decode before))) (fun_ext lent)
