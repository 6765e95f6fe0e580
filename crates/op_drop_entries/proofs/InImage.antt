-- Removal in the image: `bytes` is the image before, and its entries are those before; the image's own are those that are left. The code
-- queues names, the proof the places where the named entries stood.
use Prim.Native.Nat.{ℕ, ◌+◌, ◌≤◌, ◌<◌}
use native.Mathlib.Omega.{arith}
use mathlib.Core.Path.{◌≡◌, refl, sym, ap, ◌∙◌, subst}
use mathlib.Core.Bool.{true, false}
use mathlib.Core.List.{List, map}
use lib.Dec.{eqb}
use lib.ListN.{length, get_or, set, replicate, length-set, length-replicate, get_or-replicate}
use lib.Seq.{get_or-set_same, get_or-set_other}
use borrow.Author.Tests.{eqb-true, eqb-false}
use Rattle.lists.specs.Lists.{first_index}
use Rattle.lists.proofs.Tests.{Case, pass, fail, case}
use Rattle.tables.specs.declared.{Name.Name, Entry.Entry}
use Rattle.tables.specs.Names.{no_name, no_entry}
use Rattle.tables.specs.Lookup.{is_named}
use Rattle.tables.specs.Chains.{at_or_below}
use Rattle.tables.specs.Change.{drop_entry, drop_entries}
use Rattle.tables.proofs.ByPlace.{at}
use Rattle.image.specs.Image.{decode, is_image}
use Rattle.image_read.specs.Places.{tickets_in, lasts_in, entries_in}
use Rattle.image_read.proofs.Places.{entries_long, entries_decoded}
use Rattle.image_write.specs.Shows.{Shows, Holds}
use Rattle.image_write.proofs.Entries.{with_entries, other_entries}
use Rattle.op_drop_entries.specs.Links.{directly_below, LinkedEntries}
use Rattle.op_drop_entries.proofs.Reaching.{under, without_below}
use Rattle.op_drop_entries.proofs.Queue.{was}
use Rattle.op_drop_entries.proofs.Turns.{Turns, Turn, turn_kept, turn_room, turn_under, turn_gone, turns_more, x_named, drop_none, drop_begins, drop_ends}

-- the image has the tickets and last numbers that it had, and the queue's names are those of the entries at these places
pub record Lying (bytes image : List ℕ) (queue : List Name) (places : List ℕ) (tail : ℕ) : Type 0 where
  pub linked : LinkedEntries (entries_in bytes)
  pub is : is_image image ≡ true
  pub tickets : tickets_in image ≡ tickets_in bytes
  pub lasts : lasts_in image ≡ lasts_in bytes
  pub room : length queue ≡ 256
  pub named : (h : ℕ) → h < tail → get_or queue h no_name ≡ (at (entries_in bytes) (get_or places h 0)).name

-- the outer loop, and the inner one
pub record Going (bytes : List ℕ) (start : ℕ) (image : List ℕ) (queue : List Name) (tail head : ℕ) : Type 0 where
  pub places : List ℕ
  pub lying : Lying bytes image queue places tail
  pub turns : Turns (entries_in bytes) (entries_in image) start places tail head

pub record Turning (bytes : List ℕ) (start : ℕ) (image : List ℕ) (queue : List Name) (tail head : ℕ) (n : Name) (i : ℕ) : Type 0 where
  pub places : List ℕ
  pub lying : Lying bytes image queue places tail
  pub turn : Turn (entries_in bytes) (entries_in image) start places tail head n i

module _ {bytes : List ℕ} {start : ℕ} {image : List ℕ} {queue : List Name} {tail head : ℕ} where
  module _ {n : Name} {i : ℕ} (t : Turning bytes start image queue tail head n i) where
    pub going_more : 256 ≤ i → Going bytes start image queue tail (head + 1)
    going_more b = record { places = t.places; lying = t.lying; turns = turns_more t.turn b }

    module _ (b : i < 256) {e : Entry} (q : e ≡ at (entries_in image) i) where
      pub turning_kept : directly_below n e ≡ false → Turning bytes start image queue tail head n (i + 1)
      turning_kept d = record { places = t.places; lying = t.lying; turn = turn_kept t.turn b (ap (directly_below n) (sym q) ∙ d) }

      module _ (d : directly_below n e ≡ true) where
        here : directly_below n (at (entries_in image) i) ≡ true
        here = ap (directly_below n) (sym q) ∙ d

        pub turning_room : tail < 256
        turning_room = turn_room t.turn b here

        name_here : e.name ≡ (at (entries_in bytes) i).name
        name_here =
            ap (λ (y : Entry). y.name)
            (q ∙ was t.turn.turns.partly t.lying.linked (entries_long bytes) i b n here (turn_under t.turn))

        named' : (h : ℕ) → h < tail + 1 → get_or (set queue tail e.name) h no_name ≡ (at (entries_in bytes) (get_or (set t.places tail i) h 0)).name
        named' h c = go (case (eqb h tail))
          where
            go : Case (eqb h tail) → get_or (set queue tail e.name) h no_name ≡ (at (entries_in bytes) (get_or (set t.places tail i) h 0)).name
            go (pass p) =
                let s : h ≡ tail = eqb-true h tail p in
                ap (λ (k : ℕ). get_or (set queue tail e.name) k no_name) s
                ∙ get_or-set_same queue tail e.name no_name (omega (arith, turning_room, t.lying.room))
                ∙ name_here
                ∙ sym
                (ap (λ (k : ℕ). (at (entries_in bytes) k).name)
                (ap (λ (k : ℕ). get_or (set t.places tail i) k 0) s
                ∙ get_or-set_same t.places tail i 0 (omega (arith, turning_room, t.turn.turns.partly.room))))
            go (fail p) =
                let ne : h ≡ tail → ⊥ = eqb-false h tail p in
                get_or-set_other queue tail h e.name no_name ne
                ∙ t.lying.named h (omega arith)
                ∙ sym (ap (λ (k : ℕ). (at (entries_in bytes) k).name) (get_or-set_other t.places tail h i 0 ne))

        pub turning_gone : {none : Entry} → none ≡ no_entry → {image' : List ℕ}
            → Shows image' (tickets_in image) (lasts_in image) (set (entries_in image) i none)
            → Turning bytes start image' (set queue tail e.name) (tail + 1) head n (i + 1)
        turning_gone z s = record {
          places = set t.places tail i;
          lying = record {
            linked = t.lying.linked;
            is = s.is;
            tickets = s.tickets ∙ t.lying.tickets;
            lasts = s.lasts ∙ t.lying.lasts;
            room = length-set queue tail e.name ∙ t.lying.room;
            named = named';
          };
          turn = subst (λ (us : List Entry). Turn (entries_in bytes) us start (set t.places tail i) (tail + 1) head n (i + 1)) (sym s.entries)
              (turn_gone t.turn t.lying.linked (entries_long bytes) z b here);
        }

-- ---- the search for x ended at the place i
module _ (bytes : List ℕ) (x : Name) (is : is_image bytes ≡ true) (ok : LinkedEntries (decode bytes).entries) {i : ℕ}
    (q : i ≡ first_index (is_named x) (entries_in bytes)) where
  linked_in : LinkedEntries (entries_in bytes)
  linked_in = subst LinkedEntries (sym (entries_decoded bytes)) ok

  dropped : with_entries bytes (without_below (entries_in bytes) x) ≡ drop_entries (at_or_below (decode bytes) x) (decode bytes)
  unfolding without_below drop_entries
  dropped = ap (λ (es : List Entry). with_entries bytes (map (drop_entry (under es x)) es)) (entries_decoded bytes)

  -- what the image shows in the end is what it is to hold
  held : {image : List ℕ} → Shows image (tickets_in bytes) (lasts_in bytes) (without_below (entries_in bytes) x)
      → Holds image (drop_entries (at_or_below (decode bytes) x) (decode bytes))
  held {image} s = subst (Holds image) dropped (other_entries bytes (without_below (entries_in bytes) x) s)

  pub nothing_gone : 256 ≤ i → Holds bytes (drop_entries (at_or_below (decode bytes) x) (decode bytes))
  nothing_gone b = held (record { is = is; tickets = refl; lasts = refl; entries = drop_none (entries_in bytes) x linked_in (entries_long bytes) q b })

  pub going_begins : i < 256 → {none : Entry} → none ≡ no_entry → {image : List ℕ}
      → Shows image (tickets_in bytes) (lasts_in bytes) (set (entries_in bytes) i none) → Going bytes i image (replicate 256 x) 1 0
  going_begins b z s = record {
    places = set (replicate {A = ℕ} 256 0) 0 i;
    lying = record {
      linked = linked_in;
      is = s.is;
      tickets = s.tickets;
      lasts = s.lasts;
      room = length-replicate 256 x;
      named = λ h c. first h c;
    };
    turns = subst (λ (us : List Entry). Turns (entries_in bytes) us i (set (replicate {A = ℕ} 256 0) 0 i) 1 0) (sym s.entries)
        (drop_begins (entries_in bytes) x linked_in (entries_long bytes) q b z (replicate {A = ℕ} 256 0) (length-replicate {A = ℕ} 256 0));
  }
    where
      first : (h : ℕ) → h < 1 → get_or (replicate 256 x) h no_name ≡ (at (entries_in bytes) (get_or (set (replicate {A = ℕ} 256 0) 0 i) h 0)).name
      first h c =
          let z : h ≡ 0 = omega arith in
          get_or-replicate 256 h x no_name (omega arith)
          ∙ sym (x_named (entries_in bytes) x linked_in (entries_long bytes) q b)
          ∙ sym
          (ap (λ (k : ℕ). (at (entries_in bytes) k).name)
          (ap (λ (k : ℕ). get_or (set (replicate {A = ℕ} 256 0) 0 i) k 0) z
          ∙ get_or-set_same (replicate {A = ℕ} 256 0) 0 i 0 (omega (arith, length-replicate {A = ℕ} 256 0))))

  pub going_ends : i < 256 → {image : List ℕ} {queue : List Name} {tail head : ℕ} → Going bytes i image queue tail head → tail ≤ head
      → Holds image (drop_entries (at_or_below (decode bytes) x) (decode bytes))
  going_ends b g done = held (record {
    is = g.lying.is;
    tickets = g.lying.tickets;
    lasts = g.lying.lasts;
    entries = drop_ends (entries_in bytes) x linked_in (entries_long bytes) q b g.turns done;
  })
