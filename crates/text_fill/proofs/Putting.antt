-- One line more: what is counted and what the image shows after it.
use Prim.Native.Nat.{ℕ, suc, ◌+◌, ◌-◌, ◌*◌, ◌<◌}
use native.Mathlib.Omega.{arith}
use mathlib.Core.Path.{◌≡◌, refl, sym, ap, ◌∙◌}
use mathlib.Core.Bool.{true, cond}
use mathlib.Core.List.{List, ◌∷◌}
use lib.Dec.{eqb}
use lib.ListN.{get_or, set, length-set}
use lib.Seq.{get_or-set_same, get_or-set_other}
use borrow.Author.Tests.{eqb-true, eqb-false}
use Rattle.lists.specs.Lists.{count_of}
use Rattle.lists.proofs.Tests.{Case, pass, fail, case, cannot_pass}
use Rattle.tables.specs.declared.{Ticket.Ticket, Entry.Entry}
use Rattle.image_read.specs.Places.{tickets_in, lasts_in, entries_in}
use Rattle.image_write.specs.Shows.{Shows}
use Rattle.saved.specs.declared.Row.{Row}
use Rattle.saved.specs.Row.{is_last_row, is_ticket_row, is_entry_row, row_ok}
use Rattle.saved.specs.Load.{ticket_from, entry_from}
use Rattle.saved.proofs.RowLaws.{ranges, last_no_ticket, last_no_entry, ticket_no_entry}
use Rattle.text_fill.specs.Filling.{sorts, program_of, sort_of, most_of, count_before, tickets_by, lasts_by, entries_by, Tallied, Filled}
use Rattle.text_fill.proofs.Sorts.{sort_low, sort_last, sort_entry, sort_ticket, most_ticket}

-- ---- counted
module _ (before : List Row) (r : Row) (o : row_ok r ≡ true) (tally : List ℕ) (t : Tallied before tally) where
  counted : (sort : ℕ) → count_before (r ∷ before) sort ≡ cond (eqb (sort_of r) sort) (suc (count_before before sort)) (count_before before sort)
  unfolding count_before count_of
  counted sort = refl

  pub tallied : (s n : ℕ) → s ≡ sort_of r → n ≡ get_or tally s 0 + 1 → Tallied (r ∷ before) (set tally s n)
  tallied s n e more = record { long = length-set tally s n ∙ t.long; counts = λ sort low. go sort low (case (eqb (sort_of r) sort)) }
    where
      go : (sort : ℕ) → sort < sorts → Case (eqb (sort_of r) sort) → get_or (set tally s n) sort 0 ≡ count_before (r ∷ before) sort
      go sort low (pass q) =
          let z : s ≡ sort = e ∙ eqb-true (sort_of r) sort q in
          let one : get_or tally s 0 + 1 ≡ suc (count_before before sort) = omega (arith, ap (λ (m : ℕ). get_or tally m 0) z ∙ t.counts sort low) in
          ap (λ (m : ℕ). get_or (set tally s n) m 0) (sym z) ∙ get_or-set_same tally s n 0 (omega (arith, t.long, z, low))
          ∙ more ∙ one ∙ sym (counted sort ∙ ap (λ (b : _). cond b (suc (count_before before sort)) (count_before before sort)) q)
      go sort low (fail q) =
          get_or-set_other tally s sort n 0 (λ z. eqb-false (sort_of r) sort q (sym (z ∙ e))) ∙ t.counts sort low
          ∙ sym (counted sort ∙ ap (λ (b : _). cond b (suc (count_before before sort)) (count_before before sort)) q)

  -- the place that an entry or a ticket fills
  pub entry_place_lem : (s n : ℕ) → s ≡ sort_of r → n ≡ get_or tally s 0 → is_entry_row r ≡ true → n ≡ count_before before 64
  entry_place_lem s n e q k =
      let z : s ≡ 64 = e ∙ sort_entry r k in q ∙ ap (λ (m : ℕ). get_or tally m 0) z ∙ t.counts 64 (omega arith)

  pub ticket_place : (s n : ℕ) → s ≡ sort_of r → n ≡ get_or tally s 0 → is_ticket_row r ≡ true → 8 * (s - 32) + n ≡ 8 * program_of r + count_before before (sort_of r)
  ticket_place s n e q k =
      let c : n ≡ count_before before (sort_of r) = q ∙ ap (λ (m : ℕ). get_or tally m 0) e ∙ t.counts (sort_of r) (sort_low r o) in
      omega (arith, c, e, sort_ticket r k)

-- a place of the program's eight
pub place_low_lem : (r : Row) → row_ok r ≡ true → (s n m : ℕ) → s ≡ sort_of r → n ≡ m → m < most_of r → is_ticket_row r ≡ true → 8 * (s - 32) + n < 256
place_low_lem r o s n m e q low k =
    let w = ranges r o in omega (arith, w.pad, w.program, e, q, low, sort_ticket r k, most_ticket r k)

-- ---- put into the image
module _ (before : List Row) (r : Row) (image image' : List ℕ) (f : Filled before image) where
  pub filled_last : is_last_row r ≡ true → (s : ℕ) → s ≡ sort_of r → Shows image' (tickets_in image) (set (lasts_in image) s r.number) (entries_in image)
      → Filled (r ∷ before) image'
  unfolding tickets_by lasts_by entries_by
  filled_last l s e shows = record {
    is = shows.is;
    tickets = rw (cannot_pass (is_ticket_row r) (last_no_ticket r l)) (shows.tickets ∙ f.tickets);
    lasts = rw l (shows.lasts ∙ λ i. set (f.lasts i) ((e ∙ sort_last r l) i) r.number);
    entries = rw (cannot_pass (is_entry_row r) (last_no_entry r l)) (shows.entries ∙ f.entries);
  }

  pub filled_entry : is_entry_row r ≡ true → (place : ℕ) → place ≡ count_before before 64 → (x : Entry) → x ≡ entry_from r
      → Shows image' (tickets_in image) (lasts_in image) (set (entries_in image) place x) → Filled (r ∷ before) image'
  unfolding tickets_by lasts_by entries_by
  filled_entry e place q x same shows = record {
    is = shows.is;
    tickets = rw (cannot_pass (is_ticket_row r) (λ k. ticket_no_entry r k e)) (shows.tickets ∙ f.tickets);
    lasts = rw (cannot_pass (is_last_row r) (λ l. last_no_entry r l e)) (shows.lasts ∙ f.lasts);
    entries = rw e (shows.entries ∙ λ i. set (f.entries i) (q i) (same i));
  }

  pub filled_ticket : is_ticket_row r ≡ true → (place : ℕ) → place ≡ 8 * program_of r + count_before before (sort_of r)
      → (x : Ticket) → x ≡ ticket_from (λ n. n) r → Shows image' (set (tickets_in image) place x) (lasts_in image) (entries_in image) → Filled (r ∷ before) image'
  unfolding tickets_by lasts_by entries_by
  filled_ticket k place q x same shows = record {
    is = shows.is;
    tickets = rw k (shows.tickets ∙ λ i. set (f.tickets i) (q i) (same i));
    lasts = rw (cannot_pass (is_last_row r) (λ l. last_no_ticket r l k)) (shows.lasts ∙ f.lasts);
    entries = rw (cannot_pass (is_entry_row r) (ticket_no_entry r k)) (shows.entries ∙ f.entries);
  }
