-- An image after a part of it was written: it shows the ticket, the last number or the entry that was written, and all else as before.
use Prim.Native.Nat.{ℕ, ◌+◌, ◌≤◌, ◌<◌}
use native.Mathlib.Omega.{arith}
use mathlib.Core.Path.{◌≡◌, sym, ap, ◌∙◌}
use mathlib.Core.Logic.{inl, inr}
use mathlib.Core.Bool.{true}
use mathlib.Core.List.{List, [], ◌∷◌}
use lib.Dec.{leb, eqb}
use lib.ListN.{length, get_or, set, drop, length-set}
use lib.Seq.{ext_get_or, get_or-set_same, get_or-set_other}
use borrow.Author.Tests.{eqb-true, eqb-false}
use borrow.Rule.Slice.PartMut.{put_mid}
use Rattle.lists.proofs.Tests.{Case, pass, fail, case}
use Rattle.lists.proofs.PartLaws.{every_intro, every_at}
use Rattle.tables.specs.declared.{Ticket.Ticket, Entry.Entry}
use Rattle.tables.specs.Names.{free, no_entry}
use Rattle.image.specs.Layout.{ticket_size, entry_size}
use Rattle.image.specs.Numbers.{bytes_of, number_at}
use Rattle.image.specs.Image.{ticket_bytes, entry_bytes, ticket_start, entry_start, kinds_ok, lives_ok, is_image}
use Rattle.image.proofs.NumberLaws.{number_drop, number_begins}
use Rattle.image.proofs.Lengths.{ticket_long, entry_long}
use Rattle.image.proofs.RoundTrip.{ticket_back, entry_back, ticket_kind, entry_live, image_whole, image_kinds, image_lives, is_image_lem}
use Rattle.image_read.specs.Places.{last_start, tickets_in, lasts_in, entries_in}
use Rattle.image_read.proofs.Places.{tickets_long, lasts_long_lem, entries_long, ticket_here, last_here, entry_here}
use Rattle.image_write.specs.Shows.{Shows}
use Rattle.image_write.proofs.Parts.{Outside, stays_outside, begins_there, length_written}
use Rattle.image_write.proofs.Reading.{number_same, ticket_same, entry_same, tickets_apart, lasts_apart, entries_apart, last_by_ticket, ticket_by_last}

-- a list with one element changed, told place by place
one_changed : {A : Type 0} (d : A) (l l' : List A) (at : ℕ) (x : A) → length l' ≡ length l → get_or l' at d ≡ x
    → ((p : ℕ) → p < length l → (p ≡ at → ⊥) → get_or l' p d ≡ get_or l p d) → l' ≡ set l at x
one_changed d l l' at x long here others =
    ext_get_or d l' (set l at x) (long ∙ sym (length-set l at x)) (λ p h. go p (omega (arith, long)) (case (eqb p at)))
  where
    go : (p : ℕ) → p < length l → Case (eqb p at) → get_or l' p d ≡ get_or (set l at x) p d
    go p h (fail e) = others p h (eqb-false p at e) ∙ sym (get_or-set_other l at p x d (eqb-false p at e))
    go p h (pass e) =
        let q : p ≡ at = eqb-true p at e in
        ap (λ (m : ℕ). get_or l' m d) q ∙ here ∙ sym (ap (λ (m : ℕ). get_or (set l at x) m d) q ∙ get_or-set_same l at x d (omega (arith, h, q)))

module _ (a w : ℕ) (xs ys : List ℕ) (fits : a + w ≤ length xs) (long : length ys ≡ w) where
  abbrev now : List ℕ
  now = put_mid a w xs ys

  ticket_stays : (p : ℕ) → Outside a w (ticket_start p) ticket_size → p < 256 → get_or (tickets_in now) p free ≡ get_or (tickets_in xs) p free
  ticket_stays p o h =
      ticket_here now p h ∙ ticket_same _ _ (stays_outside a w xs ys fits long (ticket_start p) ticket_size o) ∙ sym (ticket_here xs p h)

  entry_stays : (p : ℕ) → Outside a w (entry_start p) entry_size → p < 256 → get_or (entries_in now) p no_entry ≡ get_or (entries_in xs) p no_entry
  entry_stays p o h =
      entry_here now p h ∙ entry_same _ _ (stays_outside a w xs ys fits long (entry_start p) entry_size o) ∙ sym (entry_here xs p h)

  number_stays : (s : ℕ) → Outside a w s 2 → number_at s now ≡ number_at s xs
  number_stays s o =
      sym (number_drop s now) ∙ number_same (drop s now) (drop s xs) 2 (stays_outside a w xs ys fits long s 2 o) 0 (omega arith) ∙ number_drop s xs

  last_stays : (p : ℕ) → Outside a w (last_start p) 2 → p < 32 → get_or (lasts_in now) p 0 ≡ get_or (lasts_in xs) p 0
  last_stays p o h = last_here now p h ∙ number_stays (last_start p) o ∙ sym (last_here xs p h)

  tickets_stay : ((p : ℕ) → p < 256 → Outside a w (ticket_start p) ticket_size) → tickets_in now ≡ tickets_in xs
  tickets_stay o =
      ext_get_or free (tickets_in now) (tickets_in xs) (tickets_long now ∙ sym (tickets_long xs))
      (λ p h. let low : p < 256 = omega (arith, h, tickets_long now) in ticket_stays p (o p low) low)

  lasts_stay : ((p : ℕ) → p < 32 → Outside a w (last_start p) 2) → lasts_in now ≡ lasts_in xs
  lasts_stay o =
      ext_get_or 0 (lasts_in now) (lasts_in xs) (lasts_long_lem now ∙ sym (lasts_long_lem xs))
      (λ p h. let low : p < 32 = omega (arith, h, lasts_long_lem now) in last_stays p (o p low) low)

  entries_stay : ((p : ℕ) → p < 256 → Outside a w (entry_start p) entry_size) → entries_in now ≡ entries_in xs
  entries_stay o =
      ext_get_or no_entry (entries_in now) (entries_in xs) (entries_long now ∙ sym (entries_long xs))
      (λ p h. let low : p < 256 = omega (arith, h, entries_long now) in entry_stays p (o p low) low)

-- the first number of a ticket or entry lies in its bytes
narrow : (a w s n : ℕ) → 2 ≤ n → Outside a w s n → Outside a w s 2
narrow a w s n h (inl low) = inl (omega (arith, low, h))
narrow a w s n h (inr high) = inr high

-- ---- which bytes are an image, where each kind and each live number is as before or one that was written
module _ (a w : ℕ) (xs ys : List ℕ) (fits : a + w ≤ length xs) (long : length ys ≡ w) (is : is_image xs ≡ true) where
  kind_stays : (p : ℕ) → p < 256 → Outside a w (ticket_start p) ticket_size → leb (number_at (ticket_start p) (now a w xs ys fits long)) 4 ≡ true
  unfolding kinds_ok
  kind_stays p h o =
      rw (number_stays a w xs ys fits long (ticket_start p) (narrow a w (ticket_start p) ticket_size (omega arith) o))
      (every_at 256 (λ q. leb (number_at (ticket_start q) xs) 4) (image_kinds xs is) p h)

  live_stays : (p : ℕ) → p < 256 → Outside a w (entry_start p) entry_size → leb (number_at (entry_start p) (now a w xs ys fits long)) 1 ≡ true
  unfolding lives_ok
  live_stays p h o =
      rw (number_stays a w xs ys fits long (entry_start p) (narrow a w (entry_start p) entry_size (omega arith) o))
      (every_at 256 (λ q. leb (number_at (entry_start q) xs) 1) (image_lives xs is) p h)

  still_image : ((p : ℕ) → p < 256 → leb (number_at (ticket_start p) (now a w xs ys fits long)) 4 ≡ true)
      → ((p : ℕ) → p < 256 → leb (number_at (entry_start p) (now a w xs ys fits long)) 1 ≡ true) → is_image (now a w xs ys fits long) ≡ true
  unfolding kinds_ok lives_ok
  still_image kinds lives =
      is_image_lem (now a w xs ys fits long) (length_written a w xs ys fits long ∙ image_whole xs is)
      (every_intro 256 (λ q. leb (number_at (ticket_start q) (now a w xs ys fits long)) 4) kinds)
      (every_intro 256 (λ q. leb (number_at (entry_start q) (now a w xs ys fits long)) 1) lives)

-- ---- a ticket
module _ (place : ℕ) (k : Ticket) (low : place < 256) (xs ys : List ℕ) (is : is_image xs ≡ true) (e : ys ≡ ticket_bytes k) where
  abbrev a : ℕ
  a = ticket_start place

  fits_ticket : a + ticket_size ≤ length xs
  fits_ticket = omega (arith, low, image_whole xs is)

  wide_ticket : length ys ≡ ticket_size
  wide_ticket = ap length e ∙ ticket_long k

  entry_by_ticket : (p : ℕ) → p < 256 → Outside a ticket_size (entry_start p) entry_size
  entry_by_ticket p h = inr (omega (arith, low))

  kind_there : (p : ℕ) → p < 256 → leb (number_at (ticket_start p) (put_mid a ticket_size xs ys)) 4 ≡ true
  kind_there p h = go (case (eqb p place))
    where
      go : Case (eqb p place) → leb (number_at (ticket_start p) (put_mid a ticket_size xs ys)) 4 ≡ true
      go (fail q) = kind_stays a ticket_size xs ys fits_ticket wide_ticket is p h (tickets_apart p place (eqb-false p place q))
      go (pass q) =
          rw (eqb-true p place q, sym (number_drop a (put_mid a ticket_size xs ys)))
          (ticket_kind k (drop a (put_mid a ticket_size xs ys)) (rw (sym e) (begins_there a ticket_size xs ys fits_ticket wide_ticket)))

  shown_ticket : Shows (put_mid a ticket_size xs ys) (set (tickets_in xs) place k) (lasts_in xs) (entries_in xs)
  shown_ticket = record {
    is = still_image a ticket_size xs ys fits_ticket wide_ticket is kind_there
        (λ p h. live_stays a ticket_size xs ys fits_ticket wide_ticket is p h (entry_by_ticket p h));
    tickets = one_changed free (tickets_in xs) (tickets_in (put_mid a ticket_size xs ys)) place k (tickets_long (put_mid a ticket_size xs ys) ∙ sym (tickets_long xs))
        (ticket_here (put_mid a ticket_size xs ys) place low
        ∙ ticket_back k (drop a (put_mid a ticket_size xs ys)) (rw (sym e) (begins_there a ticket_size xs ys fits_ticket wide_ticket)))
        (λ p h ne. ticket_stays a ticket_size xs ys fits_ticket wide_ticket p (tickets_apart p place ne) (omega (arith, h, tickets_long xs)));
    lasts = lasts_stay a ticket_size xs ys fits_ticket wide_ticket (λ p h. last_by_ticket place p);
    entries = entries_stay a ticket_size xs ys fits_ticket wide_ticket entry_by_ticket;
  }

  pub shows_ticket : (w : ℕ) → w ≡ ticket_size → Shows (put_mid a w xs ys) (set (tickets_in xs) place k) (lasts_in xs) (entries_in xs)
  shows_ticket w q = rw q shown_ticket

-- ---- a last number
module _ (program n : ℕ) (low : program < 32) (xs ys : List ℕ) (is : is_image xs ≡ true) (e : ys ≡ bytes_of (n ∷ [])) where
  abbrev b : ℕ
  b = last_start program

  fits_last : b + 2 ≤ length xs
  fits_last = omega (arith, low, image_whole xs is)

  wide_last : length ys ≡ 2
  unfolding bytes_of
  wide_last = ap length e

  entry_by_last : (p : ℕ) → p < 256 → Outside b 2 (entry_start p) entry_size
  entry_by_last p h = inr (omega (arith, low))

  shown_last : Shows (put_mid b 2 xs ys) (tickets_in xs) (set (lasts_in xs) program n) (entries_in xs)
  shown_last = record {
    is = still_image b 2 xs ys fits_last wide_last is (λ p h. kind_stays b 2 xs ys fits_last wide_last is p h (ticket_by_last p program))
        (λ p h. live_stays b 2 xs ys fits_last wide_last is p h (entry_by_last p h));
    tickets = tickets_stay b 2 xs ys fits_last wide_last (λ p h. ticket_by_last p program);
    lasts = one_changed 0 (lasts_in xs) (lasts_in (put_mid b 2 xs ys)) program n (lasts_long_lem (put_mid b 2 xs ys) ∙ sym (lasts_long_lem xs))
        (last_here (put_mid b 2 xs ys) program low ∙ sym (number_drop b (put_mid b 2 xs ys))
        ∙ number_begins n [] (drop b (put_mid b 2 xs ys)) (rw (sym e) (begins_there b 2 xs ys fits_last wide_last)))
        (λ p h ne. last_stays b 2 xs ys fits_last wide_last p (lasts_apart p program ne) (omega (arith, h, lasts_long_lem xs)));
    entries = entries_stay b 2 xs ys fits_last wide_last entry_by_last;
  }

  pub shows_last : (w : ℕ) → w ≡ 2 → Shows (put_mid b w xs ys) (tickets_in xs) (set (lasts_in xs) program n) (entries_in xs)
  shows_last w q = rw q shown_last

-- ---- an entry
module _ (place : ℕ) (x : Entry) (low : place < 256) (xs ys : List ℕ) (is : is_image xs ≡ true) (e : ys ≡ entry_bytes x) where
  abbrev c : ℕ
  c = entry_start place

  fits_entry : c + entry_size ≤ length xs
  fits_entry = omega (arith, low, image_whole xs is)

  wide_entry : length ys ≡ entry_size
  wide_entry = ap length e ∙ entry_long x

  ticket_by_entry : (p : ℕ) → p < 256 → Outside c entry_size (ticket_start p) ticket_size
  ticket_by_entry p h = inl (omega (arith, h))

  last_by_entry : (p : ℕ) → p < 32 → Outside c entry_size (last_start p) 2
  last_by_entry p h = inl (omega (arith, h))

  live_there : (p : ℕ) → p < 256 → leb (number_at (entry_start p) (put_mid c entry_size xs ys)) 1 ≡ true
  live_there p h = go (case (eqb p place))
    where
      go : Case (eqb p place) → leb (number_at (entry_start p) (put_mid c entry_size xs ys)) 1 ≡ true
      go (fail q) = live_stays c entry_size xs ys fits_entry wide_entry is p h (entries_apart p place (eqb-false p place q))
      go (pass q) =
          rw (eqb-true p place q, sym (number_drop c (put_mid c entry_size xs ys)))
          (entry_live x (drop c (put_mid c entry_size xs ys)) (rw (sym e) (begins_there c entry_size xs ys fits_entry wide_entry)))

  shown_entry : Shows (put_mid c entry_size xs ys) (tickets_in xs) (lasts_in xs) (set (entries_in xs) place x)
  shown_entry = record {
    is = still_image c entry_size xs ys fits_entry wide_entry is (λ p h. kind_stays c entry_size xs ys fits_entry wide_entry is p h (ticket_by_entry p h)) live_there;
    tickets = tickets_stay c entry_size xs ys fits_entry wide_entry ticket_by_entry;
    lasts = lasts_stay c entry_size xs ys fits_entry wide_entry last_by_entry;
    entries = one_changed no_entry (entries_in xs) (entries_in (put_mid c entry_size xs ys)) place x (entries_long (put_mid c entry_size xs ys) ∙ sym (entries_long xs))
        (entry_here (put_mid c entry_size xs ys) place low
        ∙ entry_back x (drop c (put_mid c entry_size xs ys)) (rw (sym e) (begins_there c entry_size xs ys fits_entry wide_entry)))
        (λ p h ne. entry_stays c entry_size xs ys fits_entry wide_entry p (entries_apart p place ne) (omega (arith, h, entries_long xs)));
  }

  pub shows_entry : (w : ℕ) → w ≡ entry_size → Shows (put_mid c w xs ys) (tickets_in xs) (lasts_in xs) (set (entries_in xs) place x)
  shows_entry w q = rw q shown_entry
