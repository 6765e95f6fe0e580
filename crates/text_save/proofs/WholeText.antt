-- The names and the lines of all blocks, one behind the other, are the saved text; and there is room to count it.
use Prim.Native.Nat.{ℕ, ◌+◌, ◌*◌, ◌≤◌, ◌<◌}
use native.Mathlib.Omega.{arith}
use mathlib.Core.Path.{◌≡◌, refl, sym, ap, ◌∙◌}
use mathlib.Core.List.{List, [], ◌∷◌, ◌++◌, append_assoc}
use lib.ListN.{length, get_or, length-append}
use Rattle.lists.specs.Parts.{joined}
use Rattle.tables.specs.declared.Tables.{Tables}
use Rattle.image.specs.Image.{decode}
use Rattle.image_read.specs.Places.{last_start}
use Rattle.image_read.proofs.Places.{last_here}
use Rattle.image_find.proofs.Laws.{flattened}
use Rattle.text.specs.Bytes.{bytes, line_end}
use Rattle.text.specs.Appending.{Appends, Countable}
use Rattle.text.proofs.Appending.{append_as, append_both}
use Rattle.saved.specs.declared.Row.{Row}
use Rattle.saved.specs.Row.{column_names}
use Rattle.saved.specs.Save.{text_of, saved}
use Rattle.saved.specs.Claims.{NumbersFit}
use Rattle.restoring.proofs.RowsInForm.{Good}
use Rattle.restoring.proofs.SavedShort.{saved_short_of}
use Rattle.saved_blocks.specs.Blocks.{blocks, block, lines_of}
use Rattle.saved_blocks.proofs.BlocksAreRows.{blocks_are_rows}
use Rattle.text_loans.specs.Walk.{Ordered}

-- the first line, with its end
abbrev first_line : List ℕ
first_line = column_names ++ line_end ∷ []

first_long : length first_line ≡ 69
unfolding column_names bytes
first_long = refl

module _ (image : List ℕ) (o : Ordered image) (small : (i : ℕ) → get_or image i 0 < 256) where
  abbrev t : Tables
  t = decode image

  -- numbers that are read have 16 bits
  numbers_fit : NumbersFit t
  numbers_fit pad program low high =
      let is = sym ((flattened image).last pad program low high) ∙ last_here image (8 * pad + program) (omega (arith, low, high)) in
      let at = last_start (8 * pad + program) in
      omega (arith, is, small at, small (at + 1))

  good : Good t
  good = record { order = o.order; numbers = numbers_fit }

  pub text_short : length (saved t) ≤ 18309
  text_short = saved_short_of t good

  abbrev lines : List ℕ
  lines = lines_of (joined blocks (block t))

  text_parts : saved t ≡ first_line ++ lines
  unfolding saved text_of
  text_parts =
      ap (λ (rows : List Row). column_names ++ line_end ∷ lines_of rows) (sym (blocks_are_rows t good)) ∙ sym (append_assoc column_names (line_end ∷ []) lines)

  module _ (out out₁ : List ℕ) (k : ℕ) (named : Appends first_line out out₁ 0 k) where
    pub lines_room : Countable k lines
    lines_room =
        let long : length (saved t) ≡ length first_line + length lines = ap length text_parts ∙ length-append first_line lines in
        omega (arith, text_short, long, named.total)

    pub put_whole : (out₂ : List ℕ) (r : ℕ) → Appends lines out₁ out₂ k r → Appends (saved t) out out₂ 0 r
    put_whole out₂ r put = append_as _ _ out out₂ 0 r (sym text_parts) (append_both _ _ _ _ _ _ _ _ named put)
