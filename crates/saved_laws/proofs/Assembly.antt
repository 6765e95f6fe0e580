-- The rows of the tables that lines give are these lines: `rows_back`.
use Prim.Native.Nat.{ℕ, ◌+◌, ◌*◌, ◌/◌, ◌%◌, ◌≤◌, ◌<◌}
use native.Mathlib.Omega.{arith}
use mathlib.Core.Path.{◌≡◌, refl, sym, ap, ◌∙◌, subst}
use mathlib.Core.Logic.{◌⊎◌, inl, inr, ⊎_elim}
use mathlib.Core.Bool.{true}
use mathlib.Core.List.{List, [], ◌++◌, map, flat_map}
use lib.ListN.{length, get_or, length-map}
use Rattle.lists.specs.Lists.{some, first_index, keep, count_of, sorted_by}
use Rattle.lists.specs.Members.{In, Once}
use Rattle.lists.proofs.Tests.{between_low, between_high}
use Rattle.lists.proofs.Rising.{Rising, is_sorted, keep_rising, rising_once, one_key}
use Rattle.lists.proofs.Filled.{filled_back}
use Rattle.lists.proofs.MemberLaws.{in_left, in_right, in_either, Kept, kept, in_keep, all_in, found, all_map, map_back, map_same, flat_same, mapped, in_map, flat}
use Rattle.lists.proofs.MemberLaws.{in_flat, tabulated, in_tabulate, once_tabulate, once_map, once_flat, once_map_append}
use Rattle.lists.proofs.Counts.{keep_long}
use Rattle.tables.specs.declared.{Name.Name, Program.Program, Tables.Tables}
use Rattle.tables.specs.Kinds.{is_live}
use Rattle.tables.specs.Names.{no_name, is_none, free, no_entry}
use Rattle.tables.specs.Lookup.{tickets_of, last_of}
use Rattle.image.proofs.KindNumbers.{live_kind}
use Rattle.saved.specs.declared.Row.{Row}
use Rattle.saved.specs.Row.{is_last_row, is_ticket_row, is_entry_row, row_ok, key}
use Rattle.saved.specs.Save.{programs, last_row, ticket_row, ticket_rows, entry_row, rows_found, rows_of}
use Rattle.saved.specs.Load.{last_of_program, ticket_of_program, all_follow, all_programs, no_row, ticket_from, entry_from, program_from, tables_with, last_in}
use Rattle.saved_laws.proofs.RowsBack.{rows_rise, ticket_back, entry_row_back, last_row_back}
use Rattle.saved.proofs.TablesOfLines.{program_at_lem, with_last_lem}
use Rattle.saved.proofs.RowLaws.{Ranges, ranges, three_kinds, last_no_ticket, last_no_entry, ticket_no_entry, last_kind, last_is, is_last, ticket_kind, ticket_is}
use Rattle.saved.proofs.RowLaws.{is_ticket}
use Rattle.saved_laws.proofs.Room.{few_tickets, few_entries, one_last}

-- ---- programs
pub listed : (i : ℕ) → In i programs → i < 32
unfolding programs
listed i m = let b = tabulated 32 (λ i. i) i m in omega (arith, b.low, b.is)

pub in_list : (i : ℕ) → i < 32 → In i programs
unfolding programs
in_list i h = in_tabulate 32 (λ i. i) i h

pub programs_once : Once programs
unfolding programs
programs_once = once_tabulate 32 (λ i. i) (λ i j e. e)

pub same_program_lem : (i j : ℕ) → i / 8 ≡ j / 8 → i % 8 ≡ j % 8 → i ≡ j
same_program_lem i j a b = omega (arith, a, b)

-- ---- kinds
ticket_live : (docks : Name → Name) (r : Row) → is_ticket_row r ≡ true → is_live (ticket_from docks r).kind ≡ true
unfolding ticket_from is_ticket_row
ticket_live docks r t = live_kind r.kind (λ z. omega (arith, z, between_low 1 4 r.kind t)) (between_high 1 4 r.kind t)

pub none_counted : (p q : ℕ) → count_of (ticket_of_program p q) [] ≤ 8
unfolding count_of
none_counted p q = omega arith

pub no_entries : count_of is_entry_row [] ≤ 256
unfolding count_of
no_entries = omega arith

module _ (docks : Name → Name) (rows : List Row)
    (ok : (z : Row) → In z rows → row_ok z ≡ true) (follow : all_follow [] rows ≡ true) (present : all_programs rows ≡ true)
    (plain : (z : Row) → In z rows → is_entry_row z ≡ true → is_none z.other ≡ true → z.other ≡ no_name) where
  abbrev t : Tables
  t = tables_with docks (last_in rows) rows

  rise : Rising key rows
  rise = rows_rise rows follow

  -- ---- tickets
  abbrev of_program_lem : ℕ → List Row
  of_program_lem i = keep (ticket_of_program (i / 8) (i % 8)) rows

  few : (p q : ℕ) → length (keep (ticket_of_program p q) rows) ≤ 8
  few p q = omega (arith, keep_long (ticket_of_program p q) rows, few_tickets p q [] rows follow (none_counted p q))

  tickets_there : (i : ℕ) → i < 32 → keep (λ k. is_live k.kind) (tickets_of t (i / 8) (i % 8)) ≡ map (ticket_from docks) (of_program_lem i)
  unfolding program_from
  tickets_there i h =
      ap (λ (a : Program). keep (λ k. is_live k.kind) a.tickets) (program_at_lem docks (last_in rows) rows (i / 8) (i % 8) (omega (arith, h)) (omega arith))
      ∙ filled_back (λ k. is_live k.kind) free refl 8 (map (ticket_from docks) (of_program_lem i))
      (subst (λ (n : ℕ). n ≤ 8) (sym (length-map (of_program_lem i) (ticket_from docks))) (few (i / 8) (i % 8)))
      (all_map (λ k. is_live k.kind) (ticket_from docks) (of_program_lem i)
      (λ x m. ticket_live docks x (ticket_kind (i / 8) (i % 8) x (kept (ticket_of_program (i / 8) (i % 8)) x rows m).passes)))

  rows_there : (i : ℕ) → i < 32 → ticket_rows t i ≡ of_program_lem i
  unfolding ticket_rows
  rows_there i h =
      ap (map (ticket_row (i / 8) (i % 8))) (tickets_there i h)
      ∙ map_back (ticket_from docks) (ticket_row (i / 8) (i % 8)) (of_program_lem i)
      (λ x m.
      let p = kept (ticket_of_program (i / 8) (i % 8)) x rows m in
      let w = ticket_is (i / 8) (i % 8) x p.passes in
      subst (λ (a : ℕ). ticket_row a (i % 8) (ticket_from docks x) ≡ x) w.0
      (subst (λ (b : ℕ). ticket_row x.pad b (ticket_from docks x) ≡ x) w.1 (ticket_back docks x (ok x p.member) (ticket_kind (i / 8) (i % 8) x p.passes))))

  -- ---- entries
  entries_there : map entry_row (keep (λ e. e.live) t.entries) ≡ keep is_entry_row rows
  unfolding tables_with entry_from
  entries_there =
      ap (map entry_row)
      (filled_back (λ e. e.live) no_entry refl 256 (map entry_from (keep is_entry_row rows))
      (subst (λ (n : ℕ). n ≤ 256) (sym (length-map (keep is_entry_row rows) entry_from)) few_there)
      (all_map (λ e. e.live) entry_from (keep is_entry_row rows) (λ x m. refl)))
      ∙ map_back entry_from entry_row (keep is_entry_row rows)
      (λ x m. let p = kept is_entry_row x rows m in entry_row_back x (ok x p.member) p.passes (plain x p.member p.passes))
    where
      few_there : length (keep is_entry_row rows) ≤ 256
      few_there = omega (arith, keep_long is_entry_row rows, few_entries [] rows follow no_entries)

  -- ---- last numbers
  abbrev last_at : ℕ → Row
  last_at i = get_or rows (first_index (last_of_program (i / 8) (i % 8)) rows) no_row

  last_found : (i : ℕ) → i < 32 → Kept (last_of_program (i / 8) (i % 8)) (last_at i) rows
  unfolding all_programs
  last_found i h =
      found (last_of_program (i / 8) (i % 8)) rows no_row (all_in (λ i. some (last_of_program (i / 8) (i % 8)) rows) programs i present (in_list i h))

  last_row_lem : (i : ℕ) → i < 32 → last_row t i ≡ last_at i
  unfolding last_row last_in
  last_row_lem i h =
      let p = last_found i h in
      let w = last_is (i / 8) (i % 8) (last_at i) p.passes in
      let n : last_of t (i / 8) (i % 8) ≡ (last_at i).number = with_last_lem docks (last_in rows) rows (i / 8) (i % 8) (omega (arith, h)) (omega arith) in
      (λ k. record { kind = 0; pad = sym w.0 k; program = sym w.1 k; number = n k; own = 0; other = no_name; first = 0; count = 0; rights = 0 })
      ∙ last_row_back (last_at i) (ok (last_at i) p.member) (last_kind (i / 8) (i % 8) (last_at i) p.passes)

  -- ---- all lines
  abbrev lists : List Row
  lists = map last_at programs ++ flat_map of_program_lem programs ++ keep is_entry_row rows

  found_is : rows_found t ≡ lists
  unfolding rows_found
  found_is =
      let a : map (last_row t) programs ≡ map last_at programs
      = map_same (last_row t) last_at programs (λ i m. last_row_lem i (listed i m)) in
      let b : flat_map (ticket_rows t) programs ≡ flat_map of_program_lem programs = flat_same (ticket_rows t) of_program_lem programs (λ i m. rows_there i (listed i m)) in
      let c = entries_there in
      λ k. a k ++ b k ++ c k

  -- each list's members are lines of their kind
  lasts_in_lem : (z : Row) → In z (map last_at programs) → Kept is_last_row z rows
  lasts_in_lem z m =
      let w = mapped last_at z programs m in
      let f = last_found w.from (listed w.from w.member) in
      record {
        member = subst (λ (r : Row). In r rows) (sym w.is) f.member;
        passes = ap is_last_row w.is ∙ last_kind (w.from / 8) (w.from % 8) (last_at w.from) f.passes;
      }

  tickets_in_lem : (z : Row) → In z (flat_map of_program_lem programs) → Kept is_ticket_row z rows
  tickets_in_lem z m =
      let p = flat of_program_lem z programs m in
      let q = kept (ticket_of_program (p.from / 8) (p.from % 8)) z rows p.part in
      record { member = q.member; passes = ticket_kind (p.from / 8) (p.from % 8) z q.passes }

  out : (z : Row) → In z lists → In z rows
  out z m =
      ⊎_elim (λ a. ⊎_elim (λ b. (lasts_in_lem z b).member) (λ b. (tickets_in_lem z b).member) (in_either z (map last_at programs) (flat_map of_program_lem programs) a))
      (λ a. (kept is_entry_row z rows a).member) (in_either z (map last_at programs ++ flat_map of_program_lem programs) (keep is_entry_row rows) m)

  -- and every line is in one
  place : Row → ℕ
  place z = 8 * z.pad + z.program

  into : (z : Row) → In z rows → In z lists
  unfolding place
  into z m = go (three_kinds z (ok z m))
    where
      b : Ranges z
      b = ranges z (ok z m)

      low : place z < 32
      low = omega (arith, b.pad, b.program)

      pad_is : z.pad ≡ place z / 8
      pad_is = omega (arith, b.program)

      program_is : z.program ≡ place z % 8
      program_is = omega (arith, b.program)

      same : is_last_row z ≡ true → z ≡ last_at (place z)
      same l =
          let f = last_found (place z) low in
          let w = last_is (place z / 8) (place z % 8) (last_at (place z)) f.passes in
          let k = last_kind (place z / 8) (place z % 8) (last_at (place z)) f.passes in
          one_last [] rows follow z (last_at (place z)) m f.member l k
          (is_last (last_at (place z)).pad (last_at (place z)).program z l (pad_is ∙ sym w.0) (program_is ∙ sym w.1))
          (is_last z.pad z.program (last_at (place z)) k (w.0 ∙ sym pad_is) (w.1 ∙ sym program_is))

      go : (is_last_row z ≡ true) ⊎ ((is_ticket_row z ≡ true) ⊎ (is_entry_row z ≡ true)) → In z lists
      go (inl l) =
          in_left z (map last_at programs ++ flat_map of_program_lem programs) (keep is_entry_row rows)
          (in_left z (map last_at programs) (flat_map of_program_lem programs)
          (subst (λ (r : Row). In r (map last_at programs)) (sym (same l)) (in_map last_at (place z) programs (in_list (place z) low))))
      go (inr (inl l)) =
          in_left z (map last_at programs ++ flat_map of_program_lem programs) (keep is_entry_row rows)
          (in_right z (map last_at programs) (flat_map of_program_lem programs)
          (in_flat of_program_lem z (place z) programs (in_list (place z) low)
          (in_keep (ticket_of_program (place z / 8) (place z % 8)) z rows m (is_ticket (place z / 8) (place z % 8) z l pad_is program_is))))
      go (inr (inr l)) =
          in_right z (map last_at programs ++ flat_map of_program_lem programs) (keep is_entry_row rows) (in_keep is_entry_row z rows m l)

  -- ---- no key twice
  apart_lasts : Once (map key (map last_at programs))
  apart_lasts =
      once_map key (map last_at programs)
      (once_map last_at programs programs_once (λ i j a b e. told i j (listed i a) (listed j b) e))
      (λ x y m k e. one_key key rows rise x y (lasts_in_lem x m).member (lasts_in_lem y k).member e)
    where
      told : (i j : ℕ) → i < 32 → j < 32 → last_at i ≡ last_at j → i ≡ j
      told i j a b e =
          let v = last_is (i / 8) (i % 8) (last_at i) (last_found i a).passes in
          let w = last_is (j / 8) (j % 8) (last_at j) (last_found j b).passes in
          same_program_lem i j (sym v.0 ∙ ap (λ (z : Row). z.pad) e ∙ w.0) (sym v.1 ∙ ap (λ (z : Row). z.program) e ∙ w.1)

  apart_tickets : Once (map key (flat_map of_program_lem programs))
  apart_tickets =
      once_flat of_program_lem key programs programs_once
      (λ i m. rising_once key (of_program_lem i) (keep_rising key (ticket_of_program (i / 8) (i % 8)) rows rise))
      (λ i j c a b m k.
      let x = mapped key c (of_program_lem i) m in
      let y = mapped key c (of_program_lem j) k in
      let p = kept (ticket_of_program (i / 8) (i % 8)) x.from rows x.member in
      let q = kept (ticket_of_program (j / 8) (j % 8)) y.from rows y.member in
      let r : x.from ≡ y.from = one_key key rows rise x.from y.from p.member q.member (sym x.is ∙ y.is) in
      let v = ticket_is (i / 8) (i % 8) x.from p.passes in
      let w = ticket_is (j / 8) (j % 8) y.from q.passes in
      same_program_lem i j (sym v.0 ∙ ap (λ (z : Row). z.pad) r ∙ w.0) (sym v.1 ∙ ap (λ (z : Row). z.program) r ∙ w.1))

  apart_all : Once (map key lists)
  apart_all =
      once_map_append key (map last_at programs ++ flat_map of_program_lem programs) (keep is_entry_row rows)
      (once_map_append key (map last_at programs) (flat_map of_program_lem programs) apart_lasts apart_tickets
      (λ x y m k e. (let p = lasts_in_lem x m in let q = tickets_in_lem y k in last_no_ticket x p.passes (ap is_ticket_row (one p.member q.member e) ∙ q.passes))))
      (rising_once key (keep is_entry_row rows) (keep_rising key is_entry_row rows rise))
      (λ x y m k e. no_entry_lem x y (kept is_entry_row y rows k) e (in_either x (map last_at programs) (flat_map of_program_lem programs) m))
    where
      one : {x y : Row} → In x rows → In y rows → key x ≡ key y → x ≡ y
      one {x} {y} = one_key key rows rise x y

      no_entry_lem : (x y : Row) → Kept is_entry_row y rows → key x ≡ key y → In x (map last_at programs) ⊎ In x (flat_map of_program_lem programs) → ⊥
      no_entry_lem x y q e (inl m) = let p = lasts_in_lem x m in last_no_entry x p.passes (ap is_entry_row (one p.member q.member e) ∙ q.passes)
      no_entry_lem x y q e (inr m) = let p = tickets_in_lem x m in ticket_no_entry x p.passes (ap is_entry_row (one p.member q.member e) ∙ q.passes)

  -- the rows of these tables are the lines
  pub rows_back : rows_of t ≡ rows
  unfolding rows_of
  rows_back = ap (sorted_by key) found_is ∙ is_sorted key lists rows apart_all rise out into
