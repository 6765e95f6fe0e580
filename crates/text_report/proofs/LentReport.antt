-- The report over lent buffers: refused, each as the definition says, or, past the tests, written whole. The scratch is zeros in every case.
use Prim.Native.Nat.{ℕ}
use native.Mathlib.Omega.{arith}
use mathlib.Core.Path.{◌≡◌, sym, ap, ◌∙◌}
use mathlib.Core.Bool.{Bool, true, false, ◌&&◌}
use mathlib.Core.List.{List}
use lib.Dec.{leb}
use lib.ListN.{length, replicate, length-replicate}
use borrow.Author.Tests.{eq-eqb, ne_eqb}
use Rattle.std.specs.Array.{IsWholeChunk}
use Rattle.tables.specs.Order.{in_order}
use Rattle.machine.specs.Refusal.{◌when◌else◌}
use Rattle.image.specs.Layout.{image_size}
use Rattle.image.specs.Image.{decode, is_image}
use Rattle.image_find.proofs.Laws.{decoded_sized}
use Rattle.preservation.proofs.TestMeansOrder.{test_means_order}
use Rattle.lending.specs.Batch.{tables_ok}
use Rattle.lending.specs.Report.{ReportBuffers, ReportLeft, report_refusal, report_lent, ReportsLent}
use Rattle.lending.proofs.Refusals.{tables_told, tables_order}
use Rattle.text.specs.Writing.{written}
use Rattle.text.specs.Appending.{Appends}
use Rattle.text.proofs.Appending.{measured, write_tested}
use Rattle.text_marks.specs.Marks.{mark_bytes}
use Rattle.report.specs.Report.{report}
use Rattle.text_loans.specs.Walk.{Ordered}

-- what clearing leaves of a scratch of the right length
pub clear_scratch : (size : ℕ) (now : List ℕ) → size ≡ mark_bytes → now ≡ replicate size 0 → now ≡ replicate mark_bytes 0
clear_scratch size now long e = e ∙ ap (λ (n : ℕ). replicate {A = ℕ} n 0) long

module _ (b : ReportBuffers) where
  abbrev zeros : List ℕ
  zeros = replicate (length b.scratch) 0

  abbrev text : List ℕ → List ℕ
  text image = report (decode image)

  -- ---- refused
  refused : (n : ℕ) → report_refusal b ≡ n → (n ≡ 0 → ⊥) → (scratch' : List ℕ) → scratch' ≡ zeros → ReportsLent b n scratch' b.output 0
  unfolding report_lent
  refused n e ne scratch' clear =
      let is : record { result = n; scratch = zeros; output = b.output; size = 0 } ≡ report_lent b = rw (e, ne_eqb n 0 ne) in
      record { result = λ i. (is i).result; scratch = clear ∙ λ i. (is i).scratch; output = λ i. (is i).output; size = λ i. (is i).size }

  module _ {filled : List ℕ} (clear : filled ≡ zeros) where
    pub other_tables : (length b.tables ≡ image_size → ⊥) → ReportsLent b 13 filled b.output 0
    unfolding report_refusal ◌when◌else◌
    other_tables h = refused 13 (rw (ne_eqb (length b.tables) image_size h)) (λ z. omega arith) filled clear

    -- the image that the tables are, and what the order test says of it
    module _ {image : List ℕ} (lent : IsWholeChunk b.tables image image_size) {r : Bool} (tested : r ≡ (is_image image && in_order (decode image))) where
      told : tables_ok b.tables ≡ r
      told = ap tables_ok (sym lent.same) ∙ sym (tables_told image tested)

      pub bad_tables : r ≡ false → ReportsLent b 14 filled b.output 0
      unfolding report_refusal ◌when◌else◌
      bad_tables e = refused 14 (rw (eq-eqb (length b.tables) image_size lent.long, told ∙ e)) (λ z. omega arith) filled clear

      module _ (good : r ≡ true) where
        pub ordered : Ordered image
        ordered = record {
          long = ap length lent.same ∙ lent.long;
          order = test_means_order (decode image) (decoded_sized image) (tables_order image (sym (tables_told image tested) ∙ good));
        }

        filled_long : length filled ≡ length b.scratch
        filled_long = ap length clear ∙ length-replicate {A = ℕ} (length b.scratch) 0

        pub other_scratch : (length filled ≡ mark_bytes → ⊥) → ReportsLent b 16 filled b.output 0
        unfolding report_refusal ◌when◌else◌
        other_scratch h =
            let other = ne_eqb (length b.scratch) mark_bytes (λ long. h (filled_long ∙ long)) in
            refused 16 (rw (eq-eqb (length b.tables) image_size lent.long, told ∙ good, other)) (λ z. omega arith) filled clear

        -- the marks that the scratch is
        module _ {marks : List ℕ} (part : IsWholeChunk filled marks mark_bytes) where
          scratch_long : length b.scratch ≡ mark_bytes
          scratch_long = sym filled_long ∙ part.long

          pub cleared : marks ≡ replicate mark_bytes 0
          cleared = part.same ∙ clear_scratch (length b.scratch) filled scratch_long clear

          -- and what they are in the end
          module _ {marks' : List ℕ} (again : marks' ≡ replicate mark_bytes 0) where
            clear_again : marks' ≡ zeros
            clear_again = again ∙ ap (λ (n : ℕ). replicate {A = ℕ} n 0) (sym scratch_long)

            pub too_short : leb (length (text image)) (length b.output) ≡ false → ReportsLent b 17 marks' b.output 0
            unfolding report_refusal ◌when◌else◌
            too_short e =
                let short : leb (length (text b.tables)) (length b.output) ≡ false
                = ap (λ (l : List ℕ). leb (length (text l)) (length b.output)) (sym lent.same) ∙ e in
                refused 17 (rw (eq-eqb (length b.tables) image_size lent.long, told ∙ good, eq-eqb (length b.scratch) mark_bytes scratch_long, short))
                (λ z. omega arith) marks' clear_again

            -- ---- written whole
            module _ (fits : leb (length (text image)) (length b.output) ≡ true) where
              served : ReportLeft
              served = record { result = 0; scratch = zeros; output = written (text b.tables) b.output; size = length (text b.tables) }

              is_served : served ≡ report_lent b
              unfolding served report_lent report_refusal ◌when◌else◌
              is_served =
                  let room : leb (length (text b.tables)) (length b.output) ≡ true
                  = ap (λ (l : List ℕ). leb (length (text l)) (length b.output)) (sym lent.same) ∙ fits in
                  rw (eq-eqb (length b.tables) image_size lent.long, told ∙ good, eq-eqb (length b.scratch) mark_bytes scratch_long, room)

              pub whole : (output' : List ℕ) (total : ℕ) → Appends (text image) b.output output' 0 total → ReportsLent b 0 marks' output' total
              unfolding served
              whole output' total put =
                  let is = is_served in
                  record {
                    result = λ i. (is i).result;
                    scratch = clear_again ∙ λ i. (is i).scratch;
                    output = (write_tested (text image) b.output output' total fits put).output ∙ ap (λ (l : List ℕ). written (text l) b.output) lent.same
                        ∙ λ i. (is i).output;
                    size = measured (text image) b.output output' total put ∙ ap (λ (l : List ℕ). length (text l)) lent.same ∙ λ i. (is i).size;
                  }
