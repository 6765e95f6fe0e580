-- Linking the listed entries: what the code finds of an entry's parent is what the definitions say, and the places of parents are written one
-- after the other. An entry that is not listed hangs under none: it fits, and its place keeps 256.
use Prim.Native.Nat.{ℕ, ◌+◌, ◌≤◌, ◌<◌}
use native.Mathlib.Omega.{arith}
use mathlib.Core.Path.{◌≡◌, refl, sym, ap, subst, ◌∙◌}
use mathlib.Core.Bool.{Bool, true, false, cond}
use mathlib.Core.List.{List, map}
use lib.ListN.{length, get_or, set, replicate, length-map, get_or-map, get_or-eq_default}
use lib.Seq.{ext_get_or}
use borrow.Author.Count.{below_none, below_more}
use Rattle.lists.specs.Tests.{implies}
use Rattle.lists.proofs.Tests.{no_true}
use Rattle.lists.proofs.Everywhere.{all_intro}
use Rattle.lists.proofs.Loops.{all_broken}
use Rattle.lists.proofs.Reading.{any_default}
use Rattle.tables.specs.declared.Entry.{Entry}
use Rattle.tables.specs.Names.{no_entry}
use Rattle.tables.specs.Order.{parent_entry_ok}
use Rattle.order_lists.specs.Listing.{EntriesListed, is_hung}
use Rattle.order_lists.proofs.Laws.{listed_every, Filled, filled_none, filled_more, filled_end}
use Rattle.order_entry_notes.specs.Notes.{note_of}
use Rattle.order_entries.specs.Parents.{has_parent, up_of, Linking}

no_parent : (e : Entry) → parent_entry_ok e no_entry ≡ false
unfolding parent_entry_ok
no_parent e = refl

module _ (numbers notes : List ℕ) (es : List Entry) (e : Entry) where
  pub free_fits : is_hung e ≡ false → has_parent numbers notes es e ≡ true
  unfolding has_parent implies
  free_fits h = rw h

  pub free_up : is_hung e ≡ false → up_of numbers notes e ≡ 256
  unfolding up_of
  free_up h = rw h

  module _ (h : is_hung e ≡ true) (q : ℕ) (at : q ≡ note_of numbers notes e.parent) where
    hung_fits : (b : Bool) → b ≡ parent_entry_ok e (get_or es q no_entry) → has_parent numbers notes es e ≡ b
    unfolding has_parent implies
    hung_fits b r =
        ap (λ (x : Bool). implies x (parent_entry_ok e (get_or es (note_of numbers notes e.parent) no_entry))) h
        ∙ ap (λ (x : ℕ). parent_entry_ok e (get_or es x no_entry)) (sym at) ∙ sym r

    hung_lost : length es ≤ q → has_parent numbers notes es e ≡ false
    hung_lost l = hung_fits false (sym (ap (parent_entry_ok e) (get_or-eq_default es no_entry l) ∙ no_parent e))

    hung_up : q ≡ up_of numbers notes e
    unfolding up_of
    hung_up = at ∙ ap (λ (x : Bool). cond x (note_of numbers notes e.parent) 256) (sym h)

module _ (numbers notes : List ℕ) (es : List Entry) (places : List ℕ) where
  abbrev at : ℕ → Entry
  at j = get_or es (get_or places j 0) no_entry

  -- the place of the parent of the entry at p
  abbrev want : ℕ → ℕ
  want p = up_of numbers notes (get_or es p no_entry)

  -- the first i of the listed entries
  pub record SoFar (i : ℕ) (up : List ℕ) : Type 0 where
    pub fits : (j : ℕ) → j < i → has_parent numbers notes es (at j) ≡ true
    pub ups : Filled 256 256 want places i up

  pub linked_none : (up : List ℕ) → up ≡ replicate 256 256 → SoFar 0 up
  linked_none up e = record {
    fits = below_none (λ j. has_parent numbers notes es (at j) ≡ true);
    ups = subst (Filled 256 256 want places 0) (sym e) (filled_none 256 256 want places);
  }

  module _ (long : length es ≡ 256) (listing : EntriesListed is_hung es places) where
    -- one more: what the code reads, the entry at the place that is listed at i, and the place of its parent
    module _ (i : ℕ) (low : i < length places) (p : ℕ) (place : p ≡ get_or places i 0) (e : Entry) (read : e ≡ get_or es p no_entry) (q : ℕ)
        (note : q ≡ note_of numbers notes e.parent) where
      this : e ≡ at i
      this = read ∙ ap (λ (x : ℕ). get_or es x no_entry) place

      is_hung_lem : is_hung e ≡ true
      is_hung_lem = ap is_hung this ∙ listing.passes i low

      refused : has_parent numbers notes es e ≡ false → (after : List ℕ) → Linking numbers notes es after false
      refused n after = record {
        same = all_broken no_entry (has_parent numbers notes es) es (get_or places i 0) (omega (arith, listing.low i low, long))
            (ap (has_parent numbers notes es) (sym this) ∙ n);
        ups = λ y. no_true y;
      }

      pub linked_lost : 256 ≤ q → (after : List ℕ) → Linking numbers notes es after false
      linked_lost h = refused (hung_lost numbers notes es e is_hung_lem q note (omega (arith, h, long)))

      module _ (parent : Entry) (at-q : parent ≡ get_or es q no_entry) where
        found : (b : Bool) → b ≡ parent_entry_ok e parent → has_parent numbers notes es e ≡ b
        found b h = hung_fits numbers notes es e is_hung_lem q note b (h ∙ ap (parent_entry_ok e) at-q)

        pub linked_bad : false ≡ parent_entry_ok e parent → (after : List ℕ) → Linking numbers notes es after false
        linked_bad h = refused (found false h)

        pub linked_more : (up : List ℕ) → SoFar i up → true ≡ parent_entry_ok e parent → SoFar (i + 1) (set up p q)
        linked_more up so h = record {
          fits = below_more (λ j. has_parent numbers notes es (at j) ≡ true) i so.fits (ap (has_parent numbers notes es) (sym this) ∙ found true h);
          ups = subst (λ (x : ℕ). Filled 256 256 want places (i + 1) (set up x q)) (sym place)
              (filled_more 256 256 want places i up so.ups (listing.low i low) q
              (hung_up numbers notes es e is_hung_lem q note ∙ ap (up_of numbers notes) this));
        }

    pub linked_end : (i : ℕ) (up : List ℕ) → length places ≤ i → SoFar i up → Linking numbers notes es up true
    linked_end i up h so = record {
      same = sym
          (all_intro no_entry (has_parent numbers notes es) es
          (λ p b. listed_every no_entry is_hung es 256 places (length places) listing (λ x. has_parent numbers notes es (get_or es x no_entry) ≡ true)
          (λ j g. so.fits j (omega (arith, g, h))) (λ x g t. free_fits numbers notes es (get_or es x no_entry) t) p (omega (arith, b, long))));
      ups = λ y. ext_get_or 0 up (map (up_of numbers notes) es) (so.ups.long ∙ sym mapped) (λ p b. same_up p (omega (arith, b, so.ups.long)));
    }
      where
        mapped : length (map (up_of numbers notes) es) ≡ 256
        mapped = length-map es (up_of numbers notes) ∙ long

        same_up : (p : ℕ) → p < 256 → get_or up p 0 ≡ get_or (map (up_of numbers notes) es) p 0
        same_up p b =
            filled_end 256 256 want places no_entry is_hung es (length places) listing (λ x g t. free_up numbers notes es (get_or es x no_entry) t) i up h
            so.ups p b
            ∙ sym (get_or-map (up_of numbers notes) es p no_entry)
            ∙ any_default (map (up_of numbers notes) es) p (up_of numbers notes no_entry) 0 (omega (arith, mapped, b))
