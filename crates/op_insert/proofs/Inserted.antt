-- A ticket or an entry set at the lowest free place of an image is the tables' given ticket or made entry.
use Prim.Native.Nat.{ℕ, ◌+◌, ◌*◌, ◌/◌, ◌%◌, ◌≤◌, ◌<◌}
use native.Mathlib.Omega.{arith}
use mathlib.Core.Path.{◌≡◌, refl, sym, ap, ◌∙◌, subst}
use mathlib.Core.Bool.{true}
use mathlib.Core.List.{List}
use lib.Dec.{eqb}
use lib.ListN.{length, get_or, set, length-set}
use lib.Seq.{get_or-set_same, get_or-set_other, set_out}
use borrow.Author.Tests.{eqb-true, eqb-false}
use Rattle.lists.specs.Lists.{first_index}
use Rattle.lists.proofs.Tests.{Case, pass, fail, case}
use Rattle.tables.specs.declared.{Ticket.Ticket, Entry.Entry, Tables.Tables}
use Rattle.tables.specs.Names.{free}
use Rattle.tables.specs.Lookup.{Sized, program_at, tickets_of}
use Rattle.tables.specs.Change.{is_free, is_spare, with_ticket, with_program, give, put_entry}
use Rattle.tables.proofs.Programs.{sized_with}
use Rattle.image.specs.Image.{decode, is_image}
use Rattle.image_read.specs.Places.{tickets_in, lasts_in, entries_in}
use Rattle.image_read.proofs.Places.{tickets_long, lasts_long_lem, entries_decoded}
use Rattle.image_find.proofs.Laws.{flattened, decoded_sized}
use Rattle.image_write.specs.Shows.{Shows, Holds}
use Rattle.image_write.proofs.ToTables.{at_place, holds, replaced_flat}
use Rattle.image_write.proofs.Entries.{with_entries, other_entries}

-- ---- an entry put in the lowest free place, if there is one
module _ (t : Tables) (e : Entry) (i : ℕ) (q : i ≡ first_index is_spare t.entries) where
  put_here : record { pads = t.pads; entries = set t.entries i e } ≡ put_entry t e
  unfolding put_entry
  put_here = ap (λ (j : ℕ). record { pads = t.pads; entries = set t.entries j e }) q

  put_nowhere : length t.entries ≤ i → t ≡ put_entry t e
  put_nowhere b = ap (λ (l : List Entry). record { pads = t.pads; entries = l }) (sym (set_out t.entries i e b)) ∙ put_here

-- ---- a ticket given to a program, counted over all pads
module _ (bytes : List ℕ) (program : ℕ) (low : program < 32) (k : Ticket) where
  abbrev pad : ℕ
  pad = program / 8

  abbrev own : ℕ
  own = program % 8

  abbrev tickets : List Ticket
  tickets = tickets_of (decode bytes) pad own

  pad_low_lem : pad < 4
  pad_low_lem = omega (arith, low)

  own_low : own < 8
  own_low = omega arith

  tickets_eight : length tickets ≡ 8
  tickets_eight = (decoded_sized bytes).tickets pad own pad_low_lem own_low

  -- the ticket in place i of the program
  there : (i : ℕ) → i < 8 → get_or (tickets_in bytes) (64 * pad + 8 * own + i) free ≡ get_or tickets i free
  there i h = at_place pad own i pad_low_lem own_low h (flattened bytes)

  sized : Sized (give (decode bytes) pad own k)
  unfolding give with_ticket
  sized =
      sized_with (decode bytes) (decoded_sized bytes) pad own (omega (arith, pad_low_lem)) (omega (arith, own_low)) (with_ticket (program_at (decode bytes) pad own) k)
      (length-set tickets (first_index is_free tickets) k ∙ tickets_eight)

  -- what is asked of the tickets by place, where the place was found
  given : {place : ℕ} → place ≡ first_index is_free tickets → (ts : List Ticket) → length ts ≡ 256
      → ((i : ℕ) → i < 8 → get_or ts (64 * pad + 8 * own + i) free ≡ get_or (set tickets place k) i free)
      → ((p : ℕ) → p < 256 → (p / 8 ≡ 8 * pad + own → ⊥) → get_or ts p free ≡ get_or (tickets_in bytes) p free)
      → {image : List ℕ} → Shows image ts (set (lasts_in bytes) program k.number) (entries_in bytes)
      → Holds image (give (decode bytes) pad own k)
  unfolding give with_ticket with_program
  given q ts long here others shows =
      holds (give (decode bytes) pad own k) sized
      (replaced_flat (decode bytes) (decoded_sized bytes) pad own pad_low_lem own_low (with_ticket (program_at (decode bytes) pad own) k)
      (tickets_in bytes) ts (lasts_in bytes) (set (lasts_in bytes) program k.number) (flattened bytes) long
      (length-set (lasts_in bytes) program k.number ∙ lasts_long_lem bytes)
      (λ i h. here i h ∙ ap (λ (j : ℕ). get_or (set tickets j k) i free) q)
      others
      (ap (λ (j : ℕ). get_or (set (lasts_in bytes) program k.number) j 0) whole
      ∙ get_or-set_same (lasts_in bytes) program k.number 0 (omega (arith, low, lasts_long_lem bytes)))
      (λ j h ne. get_or-set_other (lasts_in bytes) program j k.number 0 (λ e. ne (e ∙ sym whole))))
      (sym (entries_decoded bytes)) shows
    where
      whole : 8 * pad + own ≡ program
      whole = omega arith

  module _ {place : ℕ} (q : place ≡ first_index is_free tickets) {image : List ℕ} where
    -- no place is free
    pub given_nowhere : 8 ≤ place → Shows image (tickets_in bytes) (set (lasts_in bytes) program k.number) (entries_in bytes)
        → Holds image (give (decode bytes) pad own k)
    given_nowhere b shows =
        given q (tickets_in bytes) (tickets_long bytes)
        (λ i h. there i h ∙ sym (ap (λ (l : List Ticket). get_or l i free) (set_out tickets place k (omega (arith, b, tickets_eight)))))
        (λ p h ne. refl) shows

    pub given_here : place < 8
        → {next : List ℕ} → Shows next (tickets_in bytes) (set (lasts_in bytes) program k.number) (entries_in bytes)
        → Shows image (set (tickets_in next) (8 * program + place) k) (lasts_in next) (entries_in next)
        → Holds image (give (decode bytes) pad own k)
    given_here b s z =
        given q (set (tickets_in bytes) at k) (length-set (tickets_in bytes) at k ∙ tickets_long bytes)
        (λ i h. here i h (case (eqb i place)))
        (λ p h ne. get_or-set_other (tickets_in bytes) at p k free (λ e. ne (omega (arith, e, b)))) (record {
          is = z.is;
          tickets = z.tickets ∙ ap (λ (l : List Ticket). set l at k) s.tickets;
          lasts = z.lasts ∙ s.lasts;
          entries = z.entries ∙ s.entries;
        })
      where
        at : ℕ
        at = 8 * program + place

        here : (i : ℕ) → i < 8 → Case (eqb i place) → get_or (set (tickets_in bytes) at k) (64 * pad + 8 * own + i) free ≡ get_or (set tickets place k) i free
        here i h (pass e) =
            let w : i ≡ place = eqb-true i place e in
            let v : 64 * pad + 8 * own + i ≡ at = omega (arith, w) in
            ap (λ (j : ℕ). get_or (set (tickets_in bytes) at k) j free) v
            ∙ get_or-set_same (tickets_in bytes) at k free (omega (arith, low, b, tickets_long bytes))
            ∙ sym
            (ap (λ (j : ℕ). get_or (set tickets place k) j free) w
            ∙ get_or-set_same tickets place k free (omega (arith, b, tickets_eight)))
        here i h (fail e) =
            let ne : i ≡ place → ⊥ = eqb-false i place e in
            get_or-set_other (tickets_in bytes) at (64 * pad + 8 * own + i) k free (λ v. ne (omega (arith, v)))
            ∙ there i h
            ∙ sym (get_or-set_other tickets place i k free ne)

-- ---- an entry made
module _ (bytes : List ℕ) (e : Entry) {place : ℕ} (q : place ≡ first_index is_spare (entries_in bytes)) where
  found : place ≡ first_index is_spare (decode bytes).entries
  found = q ∙ ap (first_index is_spare) (entries_decoded bytes)

  pub made_nowhere : 256 ≤ place → is_image bytes ≡ true → Holds bytes (put_entry (decode bytes) e)
  made_nowhere b is = record { is = is; tables = put_nowhere (decode bytes) e place found (omega (arith, b, (decoded_sized bytes).entries)) }

  pub made_here : {image : List ℕ} → Shows image (tickets_in bytes) (lasts_in bytes) (set (entries_in bytes) place e) → Holds image (put_entry (decode bytes) e)
  made_here {image} shows =
      subst (Holds image)
      (ap (λ (es : List Entry). with_entries bytes (set es place e)) (entries_decoded bytes) ∙ put_here (decode bytes) e place found)
      (other_entries bytes (set (entries_in bytes) place e) shows)
