-- What the lines make place by place is what the definition makes of them all: an image that they filled holds their tables.
use Prim.Native.Nat.{ℕ, ◌+◌, ◌*◌, ◌/◌, ◌%◌, ◌<◌}
use native.Mathlib.Omega.{arith}
use mathlib.Core.Path.{◌≡◌, refl, sym, ap, ◌∙◌}
use mathlib.Core.Bool.{Bool, true, false, cond, not}
use mathlib.Core.List.{List, [], ◌∷◌, ◌++◌, map, map-append}
use lib.Dec.{ltb}
use lib.ListN.{length, get_or, set, length-map, length-set, length-replicate}
use lib.Seq.{ext_get_or, get_or-set_same, get_or-set_other}
use borrow.Author.Tests.{ltb-true}
use Rattle.lists.specs.Lists.{first_index, some, keep, filled}
use Rattle.lists.proofs.Tests.{Case, pass, fail, case, contradiction, and_r}
use Rattle.lists.proofs.Reading.{same_all}
use Rattle.lists.proofs.Counts.{keep_long}
use Rattle.lists.proofs.Filled.{filled_long}
use Rattle.lists.proofs.Growing.{turned, turned_more, one_kept, none_kept, count_turned, found_as_before, found_new, filled_at, next_filled}
use Rattle.tables.specs.declared.{Ticket.Ticket, Entry.Entry}
use Rattle.tables.specs.Names.{free, no_entry}
use Rattle.image_places.specs.Places.{Flattened}
use Rattle.image_write.specs.Shows.{Holds}
use Rattle.image_write.proofs.ToTables.{holds}
use Rattle.saved.specs.declared.Row.{Row}
use Rattle.saved.specs.Row.{is_last_row, is_ticket_row, is_entry_row, row_ok}
use Rattle.saved.specs.Load.{above, has_room, may_follow, last_of_program, ticket_of_program, no_row, ticket_from, entry_from, tables_with, last_in}
use Rattle.saved.proofs.RowLaws.{ranges, last_kind, last_is, is_last, ticket_kind, ticket_is, is_ticket}
use Rattle.saved.proofs.TablesOfLines.{with_tickets, with_sized, with_last_lem}
use Rattle.text_fill.specs.Filling.{program_of, sort_of, most_of, count_before, tickets_by, lasts_by, entries_by, bare_tables, Followed, none, more, Filled}
use Rattle.text_fill.proofs.Sorts.{sort_ticket, sort_entry, most_ticket, most_entry, count_ticket, count_entry, some_counted, room_by_sort}

-- the lines in order
abbrev pub rows_by : List Row → List Row
rows_by before = turned before []

-- ---- lengths
either_long : {A : Type 0} (b : Bool) (l : List A) (i : ℕ) (x : A) → length (cond b (set l i x) l) ≡ length l
either_long true l i x = length-set l i x
either_long false l i x = refl

tickets_long : (before : List Row) → length (tickets_by before) ≡ 256
unfolding tickets_by
tickets_long [] = length-replicate 256 free
tickets_long (r ∷ before) =
    either_long (is_ticket_row r) (tickets_by before) (8 * program_of r + count_before before (sort_of r)) (ticket_from (λ n. n) r) ∙ tickets_long before

lasts_long_lem : (before : List Row) → length (lasts_by before) ≡ 32
unfolding lasts_by
lasts_long_lem [] = length-replicate {A = ℕ} 32 0
lasts_long_lem (r ∷ before) = either_long (is_last_row r) (lasts_by before) (program_of r) r.number ∙ lasts_long_lem before

entries_long : (before : List Row) → length (entries_by before) ≡ 256
unfolding entries_by
entries_long [] = length-replicate 256 no_entry
entries_long (r ∷ before) = either_long (is_entry_row r) (entries_by before) (count_before before 64) (entry_from r) ∙ entries_long before

-- ---- room, where a line may follow
module _ {before : List Row} (ok : Followed before) (r : Row) (o : row_ok r ≡ true) (m : may_follow before r ≡ true) where
  counted : count_before before (sort_of r) < most_of r
  unfolding may_follow
  counted = ltb-true (count_before before (sort_of r)) (most_of r) (sym (room_by_sort before r ok o) ∙ and_r (above before r) (has_room before r) m)

  none_before : (p q : ℕ) → last_of_program p q r ≡ true → some (last_of_program p q) (rows_by before) ≡ false
  unfolding may_follow has_room
  none_before p q l =
      let w = last_is p q r l in
      let h : has_room before r ≡ true = and_r (above before r) (has_room before r) m in
      let n : not (some (last_of_program r.pad r.program) before) ≡ true = rw (last_kind p q r l) at h in
      some_counted (last_of_program p q) (rows_by before) ∙ ap (λ (k : ℕ). ltb 0 k) (count_turned (last_of_program p q) before)
      ∙ sym (some_counted (last_of_program p q) before)
      ∙ ap (λ (b : Bool). b) (none_of (some (last_of_program p q) before) ((λ i. not (some (last_of_program (sym w.0 i) (sym w.1 i)) before)) ∙ n))
    where
      none_of : (b : Bool) → not b ≡ true → b ≡ false
      none_of true e = sym e
      none_of false e = refl

-- ---- tickets
abbrev tickets_of_lines : ℕ → ℕ → List Row → List Ticket
tickets_of_lines p q rows = map (ticket_from (λ n. n)) (keep (ticket_of_program p q) rows)

module _ (p q : ℕ) (a : p < 4) (b : q < 8) where
  -- one line more, of the program or not
  one_ticket : (r : Row) (before : List Row) → ticket_of_program p q r ≡ true
      → tickets_of_lines p q (rows_by (r ∷ before)) ≡ tickets_of_lines p q (rows_by before) ++ ticket_from (λ n. n) r ∷ []
  one_ticket r before e =
      ap (tickets_of_lines p q) (turned_more r before) ∙ ap (map (ticket_from (λ n. n))) (one_kept (ticket_of_program p q) r (rows_by before) e)
      ∙ map-append (ticket_from (λ n. n)) (keep (ticket_of_program p q) (rows_by before)) (r ∷ [])

  no_ticket : (r : Row) (before : List Row) → ticket_of_program p q r ≡ false → tickets_of_lines p q (rows_by (r ∷ before)) ≡ tickets_of_lines p q (rows_by before)
  no_ticket r before e =
      ap (tickets_of_lines p q) (turned_more r before) ∙ ap (map (ticket_from (λ n. n))) (none_kept (ticket_of_program p q) r (rows_by before) e)

  tickets_counted : {before : List Row} → Followed before → length (tickets_of_lines p q (rows_by before)) ≡ count_before before (32 + (8 * p + q))
  tickets_counted {before} ok =
      length-map (keep (ticket_of_program p q) (rows_by before)) (ticket_from (λ n. n)) ∙ keep_long (ticket_of_program p q) (rows_by before)
      ∙ count_turned (ticket_of_program p q) before ∙ count_ticket ok p q a b

  tickets_there : {before : List Row} → Followed before → (i : ℕ) → i < 8
      → get_or (tickets_by before) (8 * (8 * p + q) + i) free ≡ get_or (tickets_of_lines p q (rows_by before)) i free
  unfolding tickets_by turned keep
  tickets_there none i low = same_all 256 free (8 * (8 * p + q) + i)
  tickets_there (more {r} {before} o m earlier) i low = go (tickets_there earlier i low) (case (ticket_of_program p q r)) (case (is_ticket_row r))
    where
      xs : List Ticket
      xs = tickets_of_lines p q (rows_by before)

      k : Ticket
      k = ticket_from (λ n. n) r

      go : get_or (tickets_by before) (8 * (8 * p + q) + i) free ≡ get_or xs i free → Case (ticket_of_program p q r) → Case (is_ticket_row r)
          → get_or (tickets_by (r ∷ before)) (8 * (8 * p + q) + i) free ≡ get_or (tickets_of_lines p q (rows_by (r ∷ before))) i free
      go h (pass t) _ =
          let w = ticket_is p q r t in
          let c : count_before before (sort_of r) ≡ length xs = ap (count_before before) (sort_ticket r (ticket_kind p q r t) ∙ λ j. 32 + (8 * w.0 j + w.1 j)) ∙ sym
          (tickets_counted earlier) in
          let few : length xs < 8 = omega (arith, c, counted earlier r o m, most_ticket r (ticket_kind p q r t)) in
          rw (ticket_kind p q r t)
          (next_filled free k (tickets_by before) xs (8 * (8 * p + q)) i (8 * (8 * p + q) + i) (8 * program_of r + count_before before (sort_of r)) refl
          (omega (arith, c, w.0, w.1)) (omega (arith, c, few, w.0, w.1, a, b, tickets_long before)) h
          ∙ ap (λ (l : List Ticket). get_or l i free) (sym (one_ticket r before t)))
      go h (fail t) (fail e) = rw e (h ∙ ap (λ (l : List Ticket). get_or l i free) (sym (no_ticket r before t)))
      go h (fail t) (pass e) =
          let w = ranges r o in
          let few : count_before before (sort_of r) < 8 = omega (arith, counted earlier r o m, most_ticket r e) in
          let other : 8 * (8 * p + q) + i ≡ 8 * program_of r + count_before before (sort_of r) → ⊥
          = λ z. elsewhere (omega (arith, z, few, low, b, w.program)) (omega (arith, z, few, low, b, w.program)) in
          rw e
          (get_or-set_other (tickets_by before) (8 * program_of r + count_before before (sort_of r)) (8 * (8 * p + q) + i) k free other ∙ h
          ∙ ap (λ (l : List Ticket). get_or l i free) (sym (no_ticket r before t)))
        where
          elsewhere : r.pad ≡ p → r.program ≡ q → ⊥
          elsewhere x y = contradiction (is_ticket p q r e x y) t

-- ---- entries
abbrev entries_of_lines : List Row → List Entry
entries_of_lines rows = map entry_from (keep is_entry_row rows)

one_entry : (r : Row) (before : List Row) → is_entry_row r ≡ true → entries_of_lines (rows_by (r ∷ before)) ≡ entries_of_lines (rows_by before) ++ entry_from r ∷ []
one_entry r before e =
    ap entries_of_lines (turned_more r before) ∙ ap (map entry_from) (one_kept is_entry_row r (rows_by before) e)
    ∙ map-append entry_from (keep is_entry_row (rows_by before)) (r ∷ [])

no_entry_lem : (r : Row) (before : List Row) → is_entry_row r ≡ false → entries_of_lines (rows_by (r ∷ before)) ≡ entries_of_lines (rows_by before)
no_entry_lem r before e = ap entries_of_lines (turned_more r before) ∙ ap (map entry_from) (none_kept is_entry_row r (rows_by before) e)

entries_counted : {before : List Row} → Followed before → length (entries_of_lines (rows_by before)) ≡ count_before before 64
entries_counted {before} ok =
    length-map (keep is_entry_row (rows_by before)) entry_from ∙ keep_long is_entry_row (rows_by before) ∙ count_turned is_entry_row before ∙ count_entry ok

entries_there : {before : List Row} → Followed before → (i : ℕ) → get_or (entries_by before) i no_entry ≡ get_or (entries_of_lines (rows_by before)) i no_entry
unfolding entries_by turned keep
entries_there none i = same_all 256 no_entry i
entries_there (more {r} {before} o m earlier) i = go (entries_there earlier i) (case (is_entry_row r))
  where
    xs : List Entry
    xs = entries_of_lines (rows_by before)

    go : get_or (entries_by before) i no_entry ≡ get_or xs i no_entry → Case (is_entry_row r)
        → get_or (entries_by (r ∷ before)) i no_entry ≡ get_or (entries_of_lines (rows_by (r ∷ before))) i no_entry
    go h (fail e) = rw e (h ∙ ap (λ (l : List Entry). get_or l i no_entry) (sym (no_entry_lem r before e)))
    go h (pass e) =
        let c : count_before before 64 ≡ length xs = sym (entries_counted earlier) in
        let few : length xs < 256 = omega (arith, c, ap (count_before before) (sort_entry r e), counted earlier r o m, most_entry r e) in
        rw e
        (next_filled no_entry (entry_from r) (entries_by before) xs 0 i i (count_before before 64) (omega arith) (omega (arith, c))
        (omega (arith, c, few, entries_long before)) h
        ∙ ap (λ (l : List Entry). get_or l i no_entry) (sym (one_entry r before e)))

entries_made : {before : List Row} → Followed before → entries_by before ≡ filled 256 no_entry (entries_of_lines (rows_by before))
entries_made {before} ok =
    ext_get_or no_entry (entries_by before) (filled 256 no_entry (entries_of_lines (rows_by before))) (entries_long before ∙ sym (filled_long 256 no_entry _))
    (λ i h. entries_there ok i ∙ sym (filled_at 256 no_entry (entries_of_lines (rows_by before)) i (omega (arith, h, entries_long before))))

-- ---- last numbers
lasts_there : (p q : ℕ) → p < 4 → q < 8 → {before : List Row} → Followed before → get_or (lasts_by before) (8 * p + q) 0 ≡ last_in (rows_by before) p q
unfolding lasts_by turned last_in first_index
lasts_there p q a b none = same_all 32 0 (8 * p + q)
lasts_there p q a b (more {r} {before} o m earlier) = go (lasts_there p q a b earlier) (case (last_of_program p q r)) (case (is_last_row r))
  where
    test : Row → Bool
    test = last_of_program p q

    told : last_in (rows_by (r ∷ before)) p q ≡ (get_or (rows_by before ++ r ∷ []) (first_index test (rows_by before ++ r ∷ [])) no_row).number
    told = ap (λ (l : List Row). last_in l p q) (turned_more r before)

    go : get_or (lasts_by before) (8 * p + q) 0 ≡ last_in (rows_by before) p q → Case (last_of_program p q r) → Case (is_last_row r)
        → get_or (lasts_by (r ∷ before)) (8 * p + q) 0 ≡ last_in (rows_by (r ∷ before)) p q
    go h (pass l) _ =
        let w = last_is p q r l in
        let new = found_new test no_row r (rows_by before) (none_before earlier r o m p q l) l in
        rw (last_kind p q r l)
        ((λ j. get_or (set (lasts_by before) (8 * w.0 j + w.1 j) r.number) (8 * p + q) 0)
        ∙ get_or-set_same (lasts_by before) (8 * p + q) r.number 0 (omega (arith, a, b, lasts_long_lem before))
        ∙ sym (told ∙ ap (λ (x : Row). x.number) new))
    go h (fail l) (fail e) =
        rw e (h ∙ sym (told ∙ ap (λ (x : Row). x.number) (found_as_before test no_row r (rows_by before) l)))
    go h (fail l) (pass e) =
        let w = ranges r o in
        let other : 8 * p + q ≡ program_of r → ⊥ = λ z. elsewhere (omega (arith, z, b, w.program)) (omega (arith, z, b, w.program)) in
        rw e
        (get_or-set_other (lasts_by before) (program_of r) (8 * p + q) r.number 0 other ∙ h
        ∙ sym (told ∙ ap (λ (x : Row). x.number) (found_as_before test no_row r (rows_by before) l)))
      where
        elsewhere : r.pad ≡ p → r.program ≡ q → ⊥
        elsewhere x y = contradiction (is_last p q r e x y) l

-- ---- the tables
module _ {before : List Row} (ok : Followed before) where
  abbrev rows : List Row
  rows = rows_by before

  laid : Flattened (bare_tables rows) (tickets_by before) (lasts_by before)
  laid = record {
    long = tickets_long before;
    same = λ p low.
        let a : p / 64 < 4 = omega (arith, low) in
        let b : p / 8 % 8 < 8 = omega arith in
        let i : p % 8 < 8 = omega arith in
        let e : p ≡ 8 * (8 * (p / 64) + p / 8 % 8) + p % 8 = omega arith in
        ap (λ (j : ℕ). get_or (tickets_by before) j free) e ∙ tickets_there (p / 64) (p / 8 % 8) a b ok (p % 8) i
        ∙ sym (ap (λ (l : List Ticket). get_or l (p % 8) free) (with_tickets (λ n. n) (last_in rows) rows (p / 64) (p / 8 % 8) a b)
        ∙ filled_at 8 free (tickets_of_lines (p / 64) (p / 8 % 8) rows) (p % 8) i);
    lasts_long = lasts_long_lem before;
    last = λ p q a b. lasts_there p q a b ok ∙ sym (with_last_lem (λ n. n) (last_in rows) rows p q a b);
  }

  pub made : (image : List ℕ) → Filled before image → Holds image (bare_tables rows)
  unfolding tables_with
  made image shows = holds (bare_tables rows) (with_sized (λ n. n) (last_in rows) rows) laid (sym (entries_made ok)) shows
