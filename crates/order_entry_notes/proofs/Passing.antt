-- The pass over the entries: after i places each is live or not, the live ones are noted, and the places listed.
use Prim.Native.Nat.{ℕ, ◌+◌, ◌≤◌, ◌<◌}
use native.Mathlib.Omega.{arith}
use mathlib.Core.Path.{◌≡◌, refl, sym, ap, subst, ◌∙◌}
use mathlib.Core.Bool.{Bool, true, false, ◌&&◌}
use mathlib.Core.List.{List}
use mir.Val.{bool_byte as from_bool}
use lib.Dec.{leb}
use lib.ListN.{length, get_or, set, replicate, length-set}
use borrow.Author.Count.{below_more}
use borrow.Author.Tests.{le-leb, lt-leb}
use Rattle.lists.proofs.Tests.{no_true, and_intro, and_false}
use Rattle.lists.proofs.Reading.{any_default}
use Rattle.lists.proofs.PartLaws.{every_intro, every_broken}
use Rattle.tables.specs.declared.{Ticket.Ticket, Entry.Entry}
use Rattle.tables.specs.Names.{no_entry}
use Rattle.image.specs.Numbers.{number_at}
use Rattle.image.specs.Image.{entry_start, lives_ok}
use Rattle.image_read.specs.Places.{tickets_in, entries_in}
use Rattle.image_read.proofs.Places.{entries_long}
use Rattle.order_lists.specs.Listing.{Listing, Beside, is_root, is_hung}
use Rattle.order_lists.proofs.Turns.{listed_none, listed_turn, listed_past, listed_to}
use Rattle.order_lists.proofs.Values.{beside_none, beside_turn, values_of}
use Rattle.order_entry_notes.specs.Notes.{every_live, place_of, has_grant, GrantAt, names_apart, NotesOf, Noting, Listed}
use Rattle.order_entry_notes.proofs.Noting.{SoFar, noted_none, noted_skip, noted_bad, noted_twice, noted_more, noted_end}

module _ (image numbers : List ℕ) where
  abbrev ks : List Ticket
  ks = tickets_in image

  abbrev es : List Entry
  es = entries_in image

  abbrev said : ℕ → ℕ
  said p = number_at (entry_start p) image

  -- each live entry names a grant that suits it, and no two name one
  abbrev suited : Bool
  suited = every_live (has_grant ks numbers) es && names_apart numbers es

  pub record Passed (i : ℕ) (notes roots hung received : List ℕ) (a b : ℕ) : Type 0 where
    pub lives : (p : ℕ) → p < i → leb (number_at (entry_start p) image) 1 ≡ true
    pub so : SoFar (tickets_in image) numbers (entries_in image) i notes
    pub long : (length roots ≡ 256) × ((length hung ≡ 256) × (length received ≡ 256))
    pub top : Listing no_entry is_root (entries_in image) i roots a
    pub under : Listing no_entry is_hung (entries_in image) i hung b
    pub grants : Beside no_entry (place_of numbers) 256 (entries_in image) hung received b

  pub passed_none : (notes roots hung received : List ℕ) → notes ≡ replicate {A = ℕ} 256 256
      → (length roots ≡ 256) × ((length hung ≡ 256) × (length received ≡ 256)) → Passed 0 notes roots hung received 0 0
  passed_none notes roots hung received e long = record {
    lives = λ p h. absurd (omega (arith, h));
    so = noted_none ks numbers es notes e;
    long = long;
    top = listed_none no_entry is_root es roots;
    under = listed_none no_entry is_hung es hung;
    grants = beside_none no_entry (place_of numbers) 256 es hung received;
  }

  -- a no
  module _ (after : List ℕ) where
    refuted : (lives_ok image && suited) ≡ false → Noting (lives_ok image) (tickets_in image) numbers (entries_in image) after false
    refuted f = record { same = sym f; noted = λ e. no_true e }

    unsuited : suited ≡ false → Noting (lives_ok image) (tickets_in image) numbers (entries_in image) after false
    unsuited f = refuted (ap (λ (b : Bool). lives_ok image && b) f ∙ and_false (lives_ok image))

  module _ (i : ℕ) (notes roots hung received : List ℕ) (a b : ℕ) (w : Passed i notes roots hung received a b) (low : i < 256)
      (n : ℕ) (e : n ≡ number_at (entry_start i) image) where
    -- ---- neither live nor not
    pub bad_live : 1 < n → (after : List ℕ) → Noting (lives_ok image) (tickets_in image) numbers (entries_in image) after false
    unfolding lives_ok
    bad_live h after =
        refuted after (ap (λ (b : Bool). b && suited) (sym (every_broken 256 (λ p. leb (said p) 1) i low (lt-leb (said i) 1 (omega (arith, e, h))))))

    module _ (two : n ≤ 1) (read : Entry) (this : read ≡ get_or es i no_entry) where
      lives_more : (p : ℕ) → p < i + 1 → leb (said p) 1 ≡ true
      lives_more = below_more _ i w.lives (le-leb (said i) 1 (omega (arith, e, two)))

      -- ---- a place without an entry
      pub passed_free : read.live ≡ false → Passed (i + 1) notes roots hung received a b
      passed_free d = record {
        lives = lives_more;
        so = noted_skip ks numbers es i notes w.so read this d;
        long = w.long;
        top = listed_past no_entry is_root es i roots a w.top (omega (arith, w.long.0, low)) read this (rw d);
        under = listed_past no_entry is_hung es i hung b w.under (omega (arith, w.long.1.0, low)) read this (rw d);
        grants = w.grants;
      }

      -- ---- an entry, and what the code finds of its grant
      module _ (live : read.live ≡ true) where
        inside : i < length es
        inside = omega (arith, entries_long image, low)

        pub bad_grant : has_grant ks numbers read ≡ false → (after : List ℕ) → Noting (lives_ok image) (tickets_in image) numbers (entries_in image) after false
        bad_grant h after =
            unsuited after (noted_bad ks numbers es i notes w.so read this inside live (place_of numbers read) refl h)

        module _ (p : ℕ) (found : GrantAt ks numbers read p) where
          note_here : get_or notes p 0 ≡ get_or notes p 256
          note_here = any_default notes p 0 256 (omega (arith, w.so.kept.long, found.low))

          pub bad_twice : get_or notes p 0 < 256 → (after : List ℕ) → Noting (lives_ok image) (tickets_in image) numbers (entries_in image) after false
          bad_twice t after =
              unsuited after (noted_twice ks numbers es i notes w.so read this inside live p found.place (omega (arith, note_here, t)))

          module _ (none : 256 ≤ get_or notes p 0) (x y : Bool) (ex : x ≡ is_root read) (ey : y ≡ is_hung read)
              (q r : ℕ) (eq : q ≡ from_bool x) (er : r ≡ from_bool y) where
            pub passed_live : Passed (i + 1) (set notes p i) (set roots a i) (set hung b i) (set received b p) (a + q) (b + r)
            passed_live = record {
              lives = lives_more;
              so = noted_more ks numbers es i notes w.so read this inside live p found.place low found.low found.suits (omega (arith, note_here, none));
              long = (length-set roots a i ∙ w.long.0, (length-set hung b i ∙ w.long.1.0, length-set received b p ∙ w.long.1.1));
              top = listed_turn no_entry is_root es i roots a w.top (omega (arith, w.long.0, low)) read this x ex q eq;
              under = listed_turn no_entry is_hung es i hung b w.under (omega (arith, w.long.1.0, low)) read this y ey r er;
              grants = beside_turn no_entry (place_of numbers) 256 es hung received b w.grants (omega (arith, w.long.1.0, w.under.most, low))
                  (omega (arith, w.long.1.1, w.under.most, low)) i p read this found.place found.low y r er;
            }

  -- ---- the end
  module _ (i : ℕ) (notes roots hung received : List ℕ) (a b : ℕ) (w : Passed i notes roots hung received a b) (end : i ≡ 256) where
    pub all_noted : Noting (lives_ok image) (tickets_in image) numbers (entries_in image) notes true
    unfolding lives_ok
    all_noted = record {
      same =
          sym
          (and_intro (every_intro 256 (λ p. leb (said p) 1) (λ p h. w.lives p (omega (arith, end, h))))
          (noted_end ks numbers es i notes (entries_long image ∙ sym end) w.so));
      noted = λ _. subst (λ (m : ℕ). NotesOf numbers es m notes) end w.so.kept;
    }

    pub all_listed : Listed numbers (entries_in image) roots hung received a b
    all_listed =
        let under = listed_to no_entry is_hung es end w.under in
        record {
          top = listed_to no_entry is_root es end w.top;
          under = under;
          grants = values_of no_entry (place_of numbers) 256 es is_hung 256 hung received b under w.grants;
        }
