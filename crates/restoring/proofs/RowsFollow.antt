-- The lines of tables in order, sorted, follow each other as the lines of a text must: strictly rising, one kind 0 line for each program, at
-- most eight tickets of a program and 256 entries.
use Prim.Native.Nat.{ℕ, ◌+◌, ◌*◌, ◌/◌, ◌%◌, ◌≤◌, ◌<◌}
use native.Mathlib.Omega.{arith}
use mathlib.Core.Path.{◌≡◌, refl, sym, ap, ◌∙◌, subst}
use mathlib.Core.Logic.{◌⊎◌, inl, inr}
use mathlib.Core.Bool.{Bool, true, false}
use mathlib.Core.List.{List, [], ◌∷◌, ◌++◌, map}
use lib.Dec.{eqb}
use lib.ListN.{length, length-map}
use borrow.Author.Tests.{lt-ltb, eq-eqb}
use Rattle.lists.specs.Lists.{some, keep, count_of}
use Rattle.lists.specs.Members.{In, first, later, Once}
use Rattle.lists.proofs.Tests.{no_true, cannot_pass, and_intro, between_test}
use Rattle.lists.proofs.Keyed.{distinct_test_lem}
use Rattle.lists.proofs.Rising.{Rising, rest, below, sorted_in, sorted_out, sorted_rising, sorted_count, keep_once}
use Rattle.lists.proofs.MemberLaws.{in_none, in_either, some_in, found, all_members, mapped, once_map, once_flat, once_map_append}
use Rattle.lists.proofs.Counting.{count_none}
use Rattle.lists.proofs.Counts.{count_joined, count_most, count_part, keep_most, count_more, count_moved}
use Rattle.tables.specs.declared.{Kind.Kind, Ticket.Ticket, Entry.Entry, Tables.Tables}
use Rattle.tables.specs.declared.Kind.TheVariants.{Free, Taken, Received, Child, Recall}
use Rattle.tables.specs.Kinds.{is_live}
use Rattle.tables.specs.Names.{eq_name}
use Rattle.tables.specs.Lookup.{tickets_of}
use Rattle.tables.specs.Same.{said, said_by, said_entry}
use Rattle.tables.proofs.NameLaws.{name_eq, eq_name_test}
use Rattle.tables.proofs.Keys.{ticket_keys, entry_keys, ticket_laws, entry_laws}
use Rattle.image.specs.Image.{kind_number}
use Rattle.saved.specs.declared.Row.{Row}
use Rattle.saved.specs.Row.{is_last_row, is_ticket_row, is_entry_row, key}
use Rattle.saved.specs.Save.{programs, last_row, ticket_row, ticket_rows, entry_row, rows_found, rows_of}
use Rattle.saved.specs.Load.{no_row, above, last_of_program, ticket_of_program, has_room, may_follow, all_follow, all_programs}
use Rattle.saved.proofs.RowLaws.{ranges, three_kinds, last_no_ticket, last_no_entry, ticket_no_entry, last_kind, last_is, is_last, ticket_kind, ticket_is, is_ticket}
use Rattle.saved_laws.proofs.Assembly.{listed, same_program_lem, programs_once}
use Rattle.restoring.proofs.RowsInForm.{InForm, Good, LastLine, TicketLine, EntryLine, last_lines, ticket_lines, entry_lines, last_out, ticket_out, entry_out}
use Rattle.restoring.proofs.RowsInForm.{Line, last, ticket, entry, line_out, lasts_found, tickets_found, entries_found, last_in_lem, found_in, ticket_in_lem}
use Rattle.restoring.proofs.RowsInForm.{entry_in_lem, line_form}

-- ---- "Lines stand by kind, pad, program, number": a key has these as digits
pub record SameKey (x y : Row) : Type 0 where
  pub kind : x.kind ≡ y.kind
  pub pad : x.pad ≡ y.pad
  pub program : x.program ≡ y.program
  pub number : x.number ≡ y.number

pub same_key : (x y : Row) → InForm x → InForm y → key x ≡ key y → SameKey x y
unfolding key
same_key x y f g e =
    let a = ranges x f.ok in
    let b = ranges y g.ok in
    let c : (x.kind * 4 + x.pad) * 8 + x.program ≡ (y.kind * 4 + y.pad) * 8 + y.program = omega (arith, e, f.number, g.number) in
    let d : x.kind * 4 + x.pad ≡ y.kind * 4 + y.pad = omega (arith, c, a.program, b.program) in
    record {
      kind = omega (arith, d, a.pad, b.pad);
      pad = omega (arith, d, a.pad, b.pad);
      program = omega (arith, c, a.program, b.program);
      number = omega (arith, e, f.number, g.number);
    }

-- ---- the kinds of lines
live_number : (c : Kind) (k : Ticket) → is_live c ≡ true → (1 ≤ kind_number (said_by c k).kind) × (kind_number (said_by c k).kind ≤ 4)
unfolding said_by
live_number Free k l = no_true l
live_number Taken k l = (omega arith, omega arith)
live_number Received k l = (omega arith, omega arith)
live_number Child k l = (omega arith, omega arith)
live_number Recall k l = (omega arith, omega arith)

pub row_is_ticket : (p q : ℕ) (k : Ticket) → is_live k.kind ≡ true → is_ticket_row (ticket_row p q k) ≡ true
unfolding is_ticket_row ticket_row
row_is_ticket p q k l =
    let b = live_number k.kind k l in
    between_test 1 4 (kind_number (said k).kind) b.0 b.1

pub row_pad : (p q : ℕ) (k : Ticket) → (ticket_row p q k).pad ≡ p
unfolding ticket_row
row_pad p q k = refl

pub row_program : (p q : ℕ) (k : Ticket) → (ticket_row p q k).program ≡ q
unfolding ticket_row
row_program p q k = refl

said_number : (c : Kind) (k : Ticket) → is_live c ≡ true → (said_by c k).number ≡ k.number
unfolding said_by
said_number Free k l = no_true l
said_number Taken k l = refl
said_number Received k l = refl
said_number Child k l = refl
said_number Recall k l = refl

pub row_number : (p q : ℕ) (k : Ticket) → is_live k.kind ≡ true → (ticket_row p q k).number ≡ k.number
unfolding ticket_row
row_number p q k l = said_number k.kind k l

pub row_is_entry : (e : Entry) → is_entry_row (entry_row e) ≡ true
unfolding is_entry_row entry_row
row_is_entry e = refl

pub row_is_last : (t : Tables) (i : ℕ) → is_last_row (last_row t i) ≡ true
unfolding is_last_row last_row
row_is_last t i = refl

pub last_at : (t : Tables) (i : ℕ) → ((last_row t i).pad ≡ i / 8) × ((last_row t i).program ≡ i % 8)
unfolding last_row
last_at t i = (refl, refl)

entry_at : (e : Entry) → ((entry_row e).pad ≡ e.name.pad) × (((entry_row e).program ≡ e.name.program) × ((entry_row e).number ≡ e.name.number))
unfolding entry_row said_entry
entry_at e = (refl, (refl, refl))

module _ (t : Tables) where
  part_of : (i : ℕ) (z : Row) → In z (ticket_rows t i) → (z.pad ≡ i / 8) × (z.program ≡ i % 8)
  unfolding ticket_rows
  part_of i z m =
      let f = mapped (ticket_row (i / 8) (i % 8)) z (keep (λ k. is_live k.kind) (tickets_of t (i / 8) (i % 8))) m in (
        ap (λ (r : Row). r.pad) f.is ∙ row_pad (i / 8) (i % 8) f.from,
        ap (λ (r : Row). r.program) f.is ∙ row_program (i / 8) (i % 8) f.from,
      )

  pub lasts_kind : (z : Row) → LastLine t z → is_last_row z ≡ true
  lasts_kind z r = ap is_last_row r.is ∙ row_is_last t r.at

  pub tickets_kind : (z : Row) → TicketLine t z → is_ticket_row z ≡ true
  tickets_kind z r = ap is_ticket_row r.is ∙ row_is_ticket r.pad r.program r.ticket r.lives

  pub entries_kind : (z : Row) → EntryLine t z → is_entry_row z ≡ true
  entries_kind z r = ap is_entry_row r.is ∙ row_is_entry r.entry

-- ---- distinct keys
same_kinds : {x y : Row} → SameKey x y → (test : Row → Bool) → ((a b : Row) → a.kind ≡ b.kind → test a ≡ test b) → test y ≡ true → test x ≡ true
same_kinds {x} {y} s test by h = by x y s.kind ∙ h

last_by : (a b : Row) → a.kind ≡ b.kind → is_last_row a ≡ is_last_row b
unfolding is_last_row
last_by a b e = ap (λ (k : ℕ). eqb k 0) e

entry_by_lem : (a b : Row) → a.kind ≡ b.kind → is_entry_row a ≡ is_entry_row b
unfolding is_entry_row
entry_by_lem a b e = ap (λ (k : ℕ). eqb k 5) e

module _ (t : Tables) (good : Good t) where
  keys_same : (x y : Row) → In x (rows_found t) → In y (rows_found t) → key x ≡ key y → SameKey x y
  keys_same x y m k e = same_key x y (line_form t good x m) (line_form t good y k) e

  lasts_apart : Once (map key (last_lines t))
  lasts_apart =
      once_map key (last_lines t)
      (once_map (last_row t) programs programs_once (λ i j a b e. told i j (listed i a) (listed j b) (ap key e)))
      (λ x y m k e.
      let v = last_out t x m in
      let w = last_out t y k in
      v.is ∙ ap (last_row t) (told v.at w.at v.low w.low (ap key (sym v.is) ∙ e ∙ ap key w.is)) ∙ sym w.is)
    where
      told : (i j : ℕ) → i < 32 → j < 32 → key (last_row t i) ≡ key (last_row t j) → i ≡ j
      told i j a b e =
          let s : SameKey (last_row t i) (last_row t j) = keys_same (last_row t i) (last_row t j) (last_in_lem t i a) (last_in_lem t j b) e in
          same_program_lem i j (sym (last_at t i).0 ∙ s.pad ∙ (last_at t j).0) (sym (last_at t i).1 ∙ s.program ∙ (last_at t j).1)

  -- a program's tickets have distinct numbers
  part_apart : (i : ℕ) → i < 32 → Once (map key (ticket_rows t i))
  unfolding ticket_rows
  part_apart i b =
      keep_once (λ k. is_live k.kind) (λ k other. eqb k.number other.number) (ticket_row (i / 8) (i % 8)) key (tickets_of t (i / 8) (i % 8))
      (distinct_test_lem ticket_keys ticket_laws (tickets_of t (i / 8) (i % 8)) (good.order.shape.distinct (i / 8) (i % 8) low (omega arith)))
      (λ x y m k l h e.
      let s = keys_same (ticket_row (i / 8) (i % 8) y) (ticket_row (i / 8) (i % 8) x) (ticket_in_lem t (i / 8) (i % 8) low (omega arith) y k h)
      (ticket_in_lem t (i / 8) (i % 8) low (omega arith) x m l) e in
      eq-eqb x.number y.number (sym (sym (row_number (i / 8) (i % 8) y h) ∙ s.number ∙ row_number (i / 8) (i % 8) x l)))
    where
      low : i / 8 < 4
      low = omega (arith, b)

  tickets_apart : Once (map key (ticket_lines t))
  tickets_apart =
      once_flat (ticket_rows t) key programs programs_once (λ i m. part_apart i (listed i m))
      (λ i j c a b m k.
      let x = mapped key c (ticket_rows t i) m in
      let y = mapped key c (ticket_rows t j) k in
      let s = keys_same x.from y.from (found_in t i (listed i a) x.from x.member) (found_in t j (listed j b) y.from y.member)
      (sym x.is ∙ y.is) in
      let v = part_of t i x.from x.member in
      let w = part_of t j y.from y.member in
      same_program_lem i j (sym v.0 ∙ s.pad ∙ w.0) (sym v.1 ∙ s.program ∙ w.1))

  entries_apart : Once (map key (entry_lines t))
  entries_apart =
      keep_once (λ e. e.live) (λ e other. eq_name e.name other.name) entry_row key t.entries
      (distinct_test_lem entry_keys entry_laws t.entries good.order.shape.distinct_entries)
      (λ x y m k l h e.
      let s = keys_same (entry_row y) (entry_row x) (entry_in_lem t y k h) (entry_in_lem t x m l) e in
      let v = entry_at x in
      let w = entry_at y in
      eq_name_test x.name y.name
      (name_eq (sym v.0 ∙ sym s.pad ∙ w.0) (sym v.1.0 ∙ sym s.program ∙ w.1.0) (sym v.1.1 ∙ sym s.number ∙ w.1.1)))

  pub rows_apart : Once (map key (rows_found t))
  unfolding rows_found
  rows_apart =
      once_map_append key (last_lines t ++ ticket_lines t) (entry_lines t)
      (once_map_append key (last_lines t) (ticket_lines t) lasts_apart tickets_apart
      (λ x y m k e.
      let s = keys_same y x (tickets_found t y k) (lasts_found t x m) (sym e) in
      last_no_ticket y (same_kinds s is_last_row last_by (lasts_kind t x (last_out t x m))) (tickets_kind t y (ticket_out t y k))))
      entries_apart
      (λ x y m k e. no_entry_lem x y k e (in_either x (last_lines t) (ticket_lines t) m))
    where
      no_entry_lem : (x y : Row) → In y (entry_lines t) → key x ≡ key y → In x (last_lines t) ⊎ In x (ticket_lines t) → ⊥
      no_entry_lem x y k e (inl m) =
          let s = keys_same y x (entries_found t y k) (lasts_found t x m) (sym e) in
          last_no_entry y (same_kinds s is_last_row last_by (lasts_kind t x (last_out t x m))) (entries_kind t y (entry_out t y k))
      no_entry_lem x y k e (inr m) =
          let s = keys_same x y (tickets_found t x m) (entries_found t y k) e in
          ticket_no_entry x (tickets_kind t x (ticket_out t x m)) (same_kinds s is_entry_row entry_by_lem (entries_kind t y (entry_out t y k)))

  pub rows_rising : Rising key (rows_of t)
  unfolding rows_of
  rows_rising = sorted_rising key (rows_found t) rows_apart

-- ---- room
none_counted : (test : Row → Bool) → count_of test [] ≡ 0
unfolding count_of
none_counted test = refl

pub part_few : (t : Tables) → Good t → (i : ℕ) → i < 32 → length (ticket_rows t i) ≤ 8
unfolding ticket_rows
part_few t good i b =
    omega (
      arith,
      length-map (keep (λ k. is_live k.kind) (tickets_of t (i / 8) (i % 8))) (ticket_row (i / 8) (i % 8)),
      keep_most (λ k. is_live k.kind) (tickets_of t (i / 8) (i % 8)),
      good.order.shape.sized.tickets (i / 8) (i % 8) (omega (arith, b)) (omega arith),
    )

module _ (t : Tables) (good : Good t) where
  ticket_count : (p q : ℕ) → count_of (ticket_of_program p q) (rows_found t) ≤ 8
  unfolding rows_found
  ticket_count p q =
      omega (
        arith,
        count_joined (ticket_of_program p q) (last_lines t ++ ticket_lines t) (entry_lines t),
        count_joined (ticket_of_program p q) (last_lines t) (ticket_lines t),
        no_lasts,
        no_entries,
        of_one,
      )
    where
      no_lasts : count_of (ticket_of_program p q) (last_lines t) ≡ 0
      no_lasts =
          count_none (ticket_of_program p q) (last_lines t)
          (λ x m. cannot_pass (ticket_of_program p q x) (λ h. last_no_ticket x (lasts_kind t x (last_out t x m)) (ticket_kind p q x h)))

      no_entries : count_of (ticket_of_program p q) (entry_lines t) ≡ 0
      no_entries =
          count_none (ticket_of_program p q) (entry_lines t)
          (λ x m. cannot_pass (ticket_of_program p q x) (λ h. ticket_no_entry x (ticket_kind p q x h) (entries_kind t x (entry_out t x m))))

      of_one : count_of (ticket_of_program p q) (ticket_lines t) ≤ 8
      of_one =
          count_part (ticket_of_program p q) (ticket_rows t) programs programs_once (8 * p + q) 8
          (λ i m. omega (arith, count_most (ticket_of_program p q) (ticket_rows t i), part_few t good i (listed i m)))
          (λ i x m k h.
          let w = ticket_is p q x h in
          let v = part_of t i x k in
          let a : i / 8 ≡ p = sym v.0 ∙ w.0 in
          let b : i % 8 ≡ q = sym v.1 ∙ w.1 in
          omega (arith, a, b))

  entry_count : count_of is_entry_row (rows_found t) ≤ 256
  unfolding rows_found
  entry_count =
      omega (
        arith,
        count_joined is_entry_row (last_lines t ++ ticket_lines t) (entry_lines t),
        count_joined is_entry_row (last_lines t) (ticket_lines t),
        no_lasts,
        no_tickets,
        count_most is_entry_row (entry_lines t),
        length-map (keep (λ e. e.live) t.entries) entry_row,
        keep_most (λ e. e.live) t.entries,
        good.order.shape.sized.entries,
      )
    where
      no_lasts : count_of is_entry_row (last_lines t) ≡ 0
      no_lasts =
          count_none is_entry_row (last_lines t) (λ x m. cannot_pass (is_entry_row x) (last_no_entry x (lasts_kind t x (last_out t x m))))

      no_tickets : count_of is_entry_row (ticket_lines t) ≡ 0
      no_tickets =
          count_none is_entry_row (ticket_lines t) (λ x m. cannot_pass (is_entry_row x) (ticket_no_entry x (tickets_kind t x (ticket_out t x m))))

  -- two kind 0 lines of one program are one
  pub last_of_lem : (p q : ℕ) (z : Row) → In z (rows_found t) → last_of_program p q z ≡ true → LastLine t z
  last_of_lem p q z m h = go (line_out t z m)
    where
      go : Line t z → LastLine t z
      go (last r) = r
      go (ticket r) = absurd (last_no_ticket z (last_kind p q z h) (tickets_kind t z r))
      go (entry r) = absurd (last_no_entry z (last_kind p q z h) (entries_kind t z r))

  pub last_place : (p q : ℕ) (z : Row) (r : LastLine t z) → last_of_program p q z ≡ true → (r.at / 8 ≡ p) × (r.at % 8 ≡ q)
  last_place p q z r h =
      let w = last_is p q z h in
      let v = last_at t r.at in
      (sym (ap (λ (a : Row). a.pad) r.is ∙ v.0) ∙ w.0, sym (ap (λ (a : Row). a.program) r.is ∙ v.1) ∙ w.1)

  one_program : (x y : Row) → In x (rows_found t) → In y (rows_found t) → is_last_row y ≡ true → last_of_program y.pad y.program x ≡ true → x ≡ y
  one_program x y m k l h =
      let r : LastLine t x = last_of_lem y.pad y.program x m h in
      let i : last_of_program y.pad y.program y ≡ true = is_last y.pad y.program y l refl refl in
      let s : LastLine t y = last_of_lem y.pad y.program y k i in
      let a = last_place y.pad y.program x r h in
      let b = last_place y.pad y.program y s i in
      let p : r.at / 8 ≡ s.at / 8 = a.0 ∙ sym b.0 in
      let q : r.at % 8 ≡ s.at % 8 = a.1 ∙ sym b.1 in
      let e : r.at ≡ s.at = omega (arith, p, q) in
      r.is ∙ ap (last_row t) e ∙ sym s.is

  -- ---- the lines follow each other
  pub record Upto (before rs : List Row) : Type 0 where
    pub past : (z : Row) → In z before → In z (rows_found t)
    pub ahead : (z : Row) → In z rs → In z (rows_found t)
    pub rising : Rising key rs
    pub under : (b y : Row) → In b before → In y rs → key b < key y
    pub tickets : (p q : ℕ) → count_of (ticket_of_program p q) before + count_of (ticket_of_program p q) rs ≤ 8
    pub entries : count_of is_entry_row before + count_of is_entry_row rs ≤ 256

  upto_next : (before : List Row) (r : Row) (rs : List Row) → Upto before (r ∷ rs) → Upto (r ∷ before) rs
  upto_next before r rs u = record {
    past = past_of;
    ahead = λ z m. u.ahead z (later m);
    rising = rest key u.rising;
    under = under_of;
    tickets = λ p q. omega (arith, u.tickets p q, count_moved (ticket_of_program p q) r before rs);
    entries = omega (arith, u.entries, count_moved is_entry_row r before rs);
  }
    where
      past_of : (z : Row) → In z (r ∷ before) → In z (rows_found t)
      past_of z (first e) = subst (λ (x : Row). In x (rows_found t)) (sym e) (u.ahead r (first refl))
      past_of z (later m) = u.past z m

      under_of : (b y : Row) → In b (r ∷ before) → In y rs → key b < key y
      under_of b y (first e) k = let q : key b ≡ key r = ap key e in omega (arith, below key u.rising y k, q)
      under_of b y (later m) k = u.under b y m (later k)

  above_of : (before : List Row) (r : Row) (rs : List Row) → Upto before (r ∷ rs) → above before r ≡ true
  unfolding above
  above_of [] r rs u = refl
  above_of (latest ∷ before) r rs u = lt-ltb (key latest) (key r) (u.under latest r (first refl) (first refl))

  room_of : (before : List Row) (r : Row) (rs : List Row) → Upto before (r ∷ rs) → has_room before r ≡ true
  unfolding has_room count_of
  room_of before r rs u = go (three_kinds r (line_form t good r here).ok)
    where
      here : In r (rows_found t)
      here = u.ahead r (first refl)

      alone : is_last_row r ≡ true → (b : Row) → In b before → last_of_program r.pad r.program b ≡ true → ⊥
      alone l b m h =
          let q : key b ≡ key r = ap key (one_program b r (u.past b m) here l h) in
          omega (arith, u.under b r m (first refl), q)

      no_last : is_last_row r ≡ true → some (last_of_program r.pad r.program) before ≡ false
      no_last l =
          cannot_pass (some (last_of_program r.pad r.program) before)
          (λ e. (let o = found (last_of_program r.pad r.program) before no_row e in alone l _ o.member o.passes))

      go : (is_last_row r ≡ true) ⊎ ((is_ticket_row r ≡ true) ⊎ (is_entry_row r ≡ true)) → has_room before r ≡ true
      go (inl l) = rw (l, no_last l)
      go (inr (inl k)) =
          let a : is_last_row r ≡ false = cannot_pass (is_last_row r) (λ l. last_no_ticket r l k) in
          let b : is_entry_row r ≡ false = cannot_pass (is_entry_row r) (λ e. ticket_no_entry r k e) in
          let o : ticket_of_program r.pad r.program r ≡ true = is_ticket r.pad r.program r k refl refl in
          let c = count_more (ticket_of_program r.pad r.program) r rs o in
          rw (a, b) (lt-ltb (count_of (ticket_of_program r.pad r.program) before) 8 (omega (arith, u.tickets r.pad r.program, c)))
      go (inr (inr e)) =
          let a : is_last_row r ≡ false = cannot_pass (is_last_row r) (λ l. last_no_entry r l e) in
          let c = count_more is_entry_row r rs e in
          rw (a, e) (lt-ltb (count_of is_entry_row before) 256 (omega (arith, u.entries, c)))

  follows : (before rs : List Row) → Upto before rs → all_follow before rs ≡ true
  unfolding all_follow may_follow
  follows before [] u = refl
  follows before (r ∷ rs) u =
      and_intro (and_intro (above_of before r rs u) (room_of before r rs u)) (follows (r ∷ before) rs (upto_next before r rs u))

  pub rows_follow : all_follow [] (rows_of t) ≡ true
  unfolding rows_of
  rows_follow = follows [] (rows_of t) (record {
    past = λ z m. absurd (in_none m);
    ahead = sorted_out key (rows_found t);
    rising = rows_rising t good;
    under = λ b y m k. absurd (in_none m);
    tickets = λ p q. omega (arith, none_counted (ticket_of_program p q), sorted_count key (ticket_of_program p q) (rows_found t), ticket_count p q);
    entries = omega (arith, none_counted is_entry_row, sorted_count key is_entry_row (rows_found t), entry_count);
  })

  pub programs_present : all_programs (rows_of t) ≡ true
  unfolding all_programs rows_of
  programs_present =
      all_members (λ i. some (last_of_program (i / 8) (i % 8)) (rows_of t)) programs
      (λ i m.
      let v = last_at t i in
      some_in (last_of_program (i / 8) (i % 8)) (rows_of t) (last_row t i) (sorted_in key (rows_found t) (last_row t i) (last_in_lem t i (listed i m)))
      (is_last (i / 8) (i % 8) (last_row t i) (row_is_last t i) v.0 v.1))
