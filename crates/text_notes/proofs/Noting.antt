-- The notes of the first i entries: each live one's place at the place of its grant, and nothing else. In tables in order each has a grant, and
-- no two have one; so in the end a grant has a note where it has an entry, and that is the entry's place.
use Prim.Native.Nat.{ℕ, ◌+◌, ◌≤◌, ◌<◌}
use native.Mathlib.Omega.{arith}
use mathlib.Core.Path.{◌≡◌, sym, ap, subst, ◌∙◌}
use mathlib.Core.Bool.{true, false}
use mathlib.Core.List.{List}
use lib.Dec.{ltb, eqb}
use lib.ListN.{length, get_or, set, replicate, length-replicate, length-set}
use lib.Seq.{get_or-set_same, get_or-set_other}
use borrow.Author.Tests.{eqb-true, eqb-false, eq-eqb, ne_eqb, ltb-true, lt-ltb}
use borrow.Author.Count.{below_more}
use Rattle.lists.proofs.Tests.{Case, pass, fail, case, contradiction, both_ways, and_l, and_r, and_intro}
use Rattle.lists.proofs.Reading.{same_all, any_default}
use Rattle.tables.specs.declared.{Name.Name, Ticket.Ticket, Entry.Entry, Tables.Tables}
use Rattle.tables.specs.Kinds.{is_live, is_head}
use Rattle.tables.specs.Names.{no_entry}
use Rattle.tables.specs.Lookup.{lookup, place_of, entry_of}
use Rattle.tables.proofs.KindLaws.{live_head}
use Rattle.tables.proofs.ByPlace.{entry_at}
use Rattle.image.specs.Numbers.{number_at}
use Rattle.image.specs.Image.{decode, read_entry, entry_start}
use Rattle.image.proofs.NumberLaws.{number_drop}
use Rattle.image_places.specs.Places.{placed, name_at}
use Rattle.image_places.proofs.Kept.{found_there, kept_here}
use Rattle.image_read.specs.Places.{entries_in}
use Rattle.image_read.proofs.Places.{entries_decoded, entry_here}
use Rattle.image_find.proofs.Laws.{flattened}
use Rattle.preservation.proofs.RuleFacts.{entry_head}
use Rattle.preservation.proofs.TestsByName.{at_entry_name}
use Rattle.preservation.proofs.Places.{all_low, all_once, entry_place, entry_at_place, entry_place_low}
use Rattle.saved_blocks.specs.Blocks.{has_entry}
use Rattle.text_loans.specs.Walk.{Ordered, ticket_in}
use Rattle.text_loans.proofs.Places.{ticket_there}
use Rattle.text_notes.specs.Notes.{Noted}

module _ (image : List ℕ) where
  abbrev t : Tables
  t = decode image

  abbrev at : ℕ → Entry
  at j = get_or (entries_in image) j no_entry

  -- the place of the grant that an entry names
  abbrev pub place : ℕ → ℕ
  place j = place_of t (at j).name

  -- ---- is it live: as the code reads it
  live_here : (j : ℕ) → j < 256 → (at j).live ≡ eqb (number_at (entry_start j) image) 1
  unfolding read_entry
  live_here j low = ap (λ (e : Entry). e.live) (entry_here image j low) ∙ ap (λ (n : ℕ). eqb n 1) (number_drop (entry_start j) image)

  module _ (j said : ℕ) (low : j < 256) (e : said ≡ number_at (entry_start j) image) where
    is_live_lem : said ≡ 1 → (at j).live ≡ true
    is_live_lem one = live_here j low ∙ eq-eqb (number_at (entry_start j) image) 1 (sym e ∙ one)

    pub not_live : (said ≡ 1 → ⊥) → (at j).live ≡ false
    not_live ne = live_here j low ∙ ne_eqb (number_at (entry_start j) image) 1 (λ z. ne (e ∙ z))

  -- ---- how far the loop has come
  -- the live entry at j, one of the first i, names the place p
  pub record Noter (i p j : ℕ) : Type 0 where
    pub low : j < i
    pub live : (at j).live ≡ true
    pub there : place j ≡ p

  pub record NotesTo (notes : List ℕ) (i : ℕ) : Type 0 where
    pub long : length notes ≡ 256
    pub noted : (j : ℕ) → j < i → (at j).live ≡ true → get_or notes (place j) 0 ≡ j
    pub noter : (p : ℕ) → p < 256 → get_or notes p 0 < 256 → Noter i p (get_or notes p 0)

  pub notes_none : (notes : List ℕ) → notes ≡ replicate {A = ℕ} 256 256 → NotesTo notes 0
  notes_none notes e = record {
    long = long;
    noted = λ j h. absurd (omega (arith, h));
    noter = λ p low h. absurd (omega (arith, h, nothing p low));
  }
    where
      long : length notes ≡ 256
      long = ap length e ∙ length-replicate {A = ℕ} 256 256

      nothing : (p : ℕ) → p < 256 → get_or notes p 0 ≡ 256
      nothing p low = any_default notes p 0 256 (omega (arith, long, low)) ∙ ap (λ (l : List ℕ). get_or l p 256) e ∙ same_all {A = ℕ} 256 256 p

  later : (i p j : ℕ) → Noter i p j → Noter (i + 1) p j
  later i p j n = record { low = omega (arith, n.low); live = n.live; there = n.there }

  pub notes_skip : (notes : List ℕ) (i : ℕ) → NotesTo notes i → i < 256 → (at i).live ≡ false → NotesTo notes (i + 1)
  notes_skip notes i so h gone = record {
    long = so.long;
    noted = below_more (λ j. (at j).live ≡ true → get_or notes (place j) 0 ≡ j) i so.noted (λ l. contradiction l gone);
    noter = λ p low b. later i p (get_or notes p 0) (so.noter p low b);
  }

  module _ (o : Ordered image) where
    -- ---- a live entry
    module _ (j : ℕ) (h : j < 256) (l : (at j).live ≡ true) where
      abbrev n : Name
      n = (at j).name

      as_table : at j ≡ entry_at t j
      as_table = ap (λ (es : List Entry). get_or es j no_entry) (entries_decoded image)

      long : length t.entries ≡ 256
      long = o.order.shape.sized.entries

      mine : entry_of t n ≡ at j
      mine =
          ap (λ (e : Entry). entry_of t e.name) as_table
          ∙ at_entry_name t o.order.shape j (omega (arith, h, long)) (ap (λ (e : Entry). e.live) (sym as_table) ∙ l) ∙ sym as_table

      mine_live : (entry_of t n).live ≡ true
      mine_live = ap (λ (e : Entry). e.live) mine ∙ l

      head : is_head (lookup t n).kind ≡ true
      head = entry_head (o.order.rules.entry n mine_live)

      live : is_live (lookup t n).kind ≡ true
      live = live_head (lookup t n).kind head

      place_low_lem : place j < 256
      place_low_lem = all_low t o.order n live

    place_once : (i j : ℕ) → i < 256 → j < 256 → (at i).live ≡ true → (at j).live ≡ true → place i ≡ place j → i ≡ j
    place_once i j h k l m e =
        let same : (at i).name ≡ (at j).name = all_once t o.order (at i).name (at j).name (live i h l) (live j k m) e in
        let a = as_table i h l in
        let b = as_table j k m in
        o.order.shape.distinct_entries i j (omega (arith, h, long i h l)) (omega (arith, k, long j k m)) (ap (λ (x : Entry). x.live) (sym a) ∙ l)
        (ap (λ (x : Entry). x.live) (sym b) ∙ m) (ap (λ (x : Entry). x.name) (sym a) ∙ same ∙ ap (λ (x : Entry). x.name) b)

    -- as the code reads it, with its grant's place
    pub record Read (i p : ℕ) : Type 0 where
      pub live : (at i).live ≡ true
      pub is : p ≡ place i
      pub low : p < 256

    pub read : (i said p : ℕ) (e : Entry) → i < 256 → said ≡ number_at (entry_start i) image → said ≡ 1 → e ≡ at i → p ≡ place_of t e.name
        → Read i p
    read i said p e h r one is_entry is_place =
        let live : (at i).live ≡ true = is_live_lem i said h r one in
        let is : p ≡ place i = is_place ∙ ap (λ (x : Entry). place_of t x.name) is_entry in
        record { live = live; is = is; low = omega (arith, is, place_low_lem i h live) }

    module _ (notes : List ℕ) (i : ℕ) (so : NotesTo notes i) (h : i < 256) (p : ℕ) (it : Read i p) where
      l : (at i).live ≡ true
      l = it.live

      is : p ≡ place i
      is = it.is

      new : get_or (set notes p i) p 0 ≡ i
      new = get_or-set_same notes p i 0 (omega (arith, so.long, it.low))

      old : (q : ℕ) → (q ≡ p → ⊥) → get_or (set notes p i) q 0 ≡ get_or notes q 0
      old q ne = get_or-set_other notes p q i 0 ne

      before : (j : ℕ) → j < i → (at j).live ≡ true → get_or (set notes p i) (place j) 0 ≡ j
      before j b m =
          old (place j) (λ e. let z : j ≡ i = place_once j i (omega arith) h m l (e ∙ is) in omega (arith, z, b)) ∙ so.noted j b m

      noter_at : (q : ℕ) → q < 256 → get_or (set notes p i) q 0 < 256 → Case (eqb q p) → Noter (i + 1) q (get_or (set notes p i) q 0)
      noter_at q b c (pass e) =
          let z : q ≡ p = eqb-true q p e in
          subst (λ (j : ℕ). Noter (i + 1) q j) (sym (ap (λ (x : ℕ). get_or (set notes p i) x 0) z ∙ new))
          (record { low = omega arith; live = l; there = sym is ∙ sym z })
      noter_at q b c (fail e) =
          let z = old q (eqb-false q p e) in
          subst (λ (j : ℕ). Noter (i + 1) q j) (sym z) (later i q (get_or notes q 0) (so.noter q b (omega (arith, z, c))))

      pub notes_more : NotesTo (set notes p i) (i + 1)
      notes_more = record {
        long = length-set notes p i ∙ so.long;
        noted = below_more (λ j. (at j).live ≡ true → get_or (set notes p i) (place j) 0 ≡ j) i before
            (λ m. ap (λ (x : ℕ). get_or (set notes p i) x 0) (sym is) ∙ new);
        noter = λ q b c. noter_at q b c (case (eqb q p));
      }

    -- ---- all of them
    module _ (notes : List ℕ) (i : ℕ) (so : NotesTo notes i) (end : 256 ≤ i) (p : ℕ) (low : p < 256) where
      abbrev k : Ticket
      k = ticket_in image p

      abbrev note : ℕ
      note = get_or notes p 0

      -- where a note is, the grant is the one that the entry names
      module _ (b : note < 256) where
        by : Noter i p note
        by = so.noter p low b

        named : Name
        named = (at note).name

        grant : k ≡ lookup t named
        unfolding named
        grant = ap (ticket_in image) (sym by.there) ∙ ticket_there image named (live note b by.live)

        dock : k.dock ≡ named
        unfolding named
        dock = ap (λ (x : Ticket). x.dock) grant ∙ o.order.rules.dock named (head note b by.live)

        here : entry_of t k.dock ≡ at note
        unfolding named
        here = ap (entry_of t) dock ∙ mine note b by.live

        has_it : has_entry t k ≡ true
        unfolding has_entry named
        has_it = and_intro (ap (λ (x : Ticket). is_head x.kind) grant ∙ head note b by.live) (ap (λ (e : Entry). e.live) here ∙ by.live)

      -- and where the grant has an entry, there is its note
      module _ (e : has_entry t k ≡ true) where
        is_head_lem : is_head k.kind ≡ true
        unfolding has_entry
        is_head_lem = and_l (is_head k.kind) (entry_of t k.dock).live e

        entry_live : (entry_of t k.dock).live ≡ true
        unfolding has_entry
        entry_live = and_r (is_head k.kind) (entry_of t k.dock).live e

        stands : k ≡ placed t p
        stands = (flattened image).same p low

        standing : is_live (placed t p).kind ≡ true
        standing = ap (λ (x : Ticket). is_live x.kind) (sym stands) ∙ live_head k.kind is_head_lem

        its : Name
        its = name_at p (placed t p)

        found : lookup t its ≡ k
        unfolding its
        found = found_there t o.order.shape.sized o.order.shape.distinct p low standing ∙ sym stands

        its_dock : k.dock ≡ its
        its_dock = ap (λ (x : Ticket). x.dock) (sym found) ∙ o.order.rules.dock its (ap (λ (x : Ticket). is_head x.kind) found ∙ is_head_lem)

        j : ℕ
        j = entry_place t o.order its

        its_live : (entry_of t its).live ≡ true
        its_live = ap (λ (m : Name). (entry_of t m).live) (sym its_dock) ∙ entry_live

        j_low : j < 256
        unfolding j
        j_low = omega (arith, entry_place_low t o.order its its_live, o.order.shape.sized.entries)

        entry_is : at j ≡ entry_of t its
        unfolding j
        entry_is = ap (λ (es : List Entry). get_or es j no_entry) (entries_decoded image) ∙ sym (entry_at_place t o.order its)

        there : place j ≡ p
        unfolding its
        there =
            ap (λ (x : Entry). place_of t x.name) entry_is ∙ ap (place_of t) (o.order.rules.entry_name its its_live)
            ∙ kept_here t o.order.shape.sized o.order.shape.distinct p low standing

        noted_here : note < 256
        noted_here =
            let z = so.noted j (omega (arith, j_low, end)) (ap (λ (x : Entry). x.live) entry_is ∙ its_live) in
            let same : note ≡ j = ap (λ (q : ℕ). get_or notes q 0) (sym there) ∙ z in
            omega (arith, same, j_low)

      pub has_note_lem : ltb note 256 ≡ has_entry t k
      has_note_lem = both_ways (ltb note 256) (has_entry t k) (λ e. has_it (ltb-true note 256 e)) (λ e. lt-ltb note 256 (noted_here e))

      pub note_entry : has_entry t k ≡ true → at note ≡ entry_of t k.dock
      note_entry e = sym (here (noted_here e))

    pub notes_end : (notes : List ℕ) (i : ℕ) → NotesTo notes i → 256 ≤ i → Noted image notes
    notes_end notes i so end = record { long = so.long; has = has_note_lem notes i so end; entry = note_entry notes i so end }
