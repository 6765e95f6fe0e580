-- Saving over lent buffers: refused, each as the definition says, or, past the tests, written whole.
use Prim.Native.Nat.{ℕ}
use native.Mathlib.Omega.{arith}
use mathlib.Core.Path.{◌≡◌, sym, ap, ◌∙◌}
use mathlib.Core.Bool.{Bool, true, false, ◌&&◌}
use mathlib.Core.List.{List}
use lib.Dec.{leb}
use lib.ListN.{length}
use borrow.Author.Tests.{eq-eqb, ne_eqb}
use Rattle.std.specs.Array.{IsWholeChunk}
use Rattle.tables.specs.Order.{in_order}
use Rattle.machine.specs.Refusal.{◌when◌else◌}
use Rattle.image.specs.Layout.{image_size}
use Rattle.image.specs.Image.{decode, is_image}
use Rattle.image_find.proofs.Laws.{decoded_sized}
use Rattle.preservation.proofs.TestMeansOrder.{test_means_order}
use Rattle.lending.specs.Batch.{tables_ok}
use Rattle.lending.specs.Saved.{SaveBuffers, SaveLeft, save_refusal, save_lent, SavesLent}
use Rattle.lending.proofs.Refusals.{tables_told, tables_order}
use Rattle.text.specs.Writing.{written}
use Rattle.text.specs.Appending.{Appends}
use Rattle.text.proofs.Appending.{measured, write_tested}
use Rattle.saved.specs.Save.{saved}
use Rattle.text_loans.specs.Walk.{Ordered}

module _ (b : SaveBuffers) where
  abbrev text : List ℕ → List ℕ
  text image = saved (decode image)

  -- ---- refused
  refused : (n : ℕ) → save_refusal b ≡ n → (n ≡ 0 → ⊥) → SavesLent b n b.output 0
  unfolding save_lent
  refused n e ne =
      let is : record { result = n; output = b.output; size = 0 } ≡ save_lent b = rw (e, ne_eqb n 0 ne) in
      record { result = λ i. (is i).result; output = λ i. (is i).output; size = λ i. (is i).size }

  pub other_tables : (length b.tables ≡ image_size → ⊥) → SavesLent b 13 b.output 0
  unfolding save_refusal ◌when◌else◌
  other_tables h = refused 13 (rw (ne_eqb (length b.tables) image_size h)) (λ z. omega arith)

  -- the image that the tables are, and what the order test says of it
  module _ {image : List ℕ} (lent : IsWholeChunk b.tables image image_size) {r : Bool} (tested : r ≡ (is_image image && in_order (decode image))) where
    told : tables_ok b.tables ≡ r
    told = ap tables_ok (sym lent.same) ∙ sym (tables_told image tested)

    pub bad_tables : r ≡ false → SavesLent b 14 b.output 0
    unfolding save_refusal ◌when◌else◌
    bad_tables e = refused 14 (rw (eq-eqb (length b.tables) image_size lent.long, told ∙ e)) (λ z. omega arith)

    module _ (good : r ≡ true) where
      pub ordered : Ordered image
      ordered = record {
        long = ap length lent.same ∙ lent.long;
        order = test_means_order (decode image) (decoded_sized image) (tables_order image (sym (tables_told image tested) ∙ good));
      }

      pub too_short : leb (length (text image)) (length b.output) ≡ false → SavesLent b 17 b.output 0
      unfolding save_refusal ◌when◌else◌
      too_short e =
          let short : leb (length (text b.tables)) (length b.output) ≡ false
          = ap (λ (l : List ℕ). leb (length (text l)) (length b.output)) (sym lent.same) ∙ e in
          refused 17 (rw (eq-eqb (length b.tables) image_size lent.long, told ∙ good, short)) (λ z. omega arith)

      -- ---- written whole
      module _ (fits : leb (length (text image)) (length b.output) ≡ true) where
        served : SaveLeft
        served = record { result = 0; output = written (text b.tables) b.output; size = length (text b.tables) }

        is_served : served ≡ save_lent b
        unfolding served save_lent save_refusal ◌when◌else◌
        is_served =
            let room : leb (length (text b.tables)) (length b.output) ≡ true
            = ap (λ (l : List ℕ). leb (length (text l)) (length b.output)) (sym lent.same) ∙ fits in
            rw (eq-eqb (length b.tables) image_size lent.long, told ∙ good, room)

        pub whole : (output' : List ℕ) (total : ℕ) → Appends (text image) b.output output' 0 total → SavesLent b 0 output' total
        unfolding served
        whole output' total put =
            let is = is_served in
            record {
              result = λ i. (is i).result;
              output = (write_tested (text image) b.output output' total fits put).output ∙ ap (λ (l : List ℕ). written (text l) b.output) lent.same
                  ∙ λ i. (is i).output;
              size = measured (text image) b.output output' total put ∙ ap (λ (l : List ℕ). length (text l)) lent.same ∙ λ i. (is i).size;
            }
