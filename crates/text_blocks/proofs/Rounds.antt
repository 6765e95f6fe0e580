-- The loop over the blocks: the lines of those below m are put.
use Prim.Native.Nat.{ℕ, ◌+◌, ◌<◌}
use native.Mathlib.Omega.{arith}
use native.Mathlib.Numerals.{add-one}
use mathlib.Core.Path.{◌≡◌, refl, sym, ap, subst, ◌∙◌}
use mathlib.Core.List.{List, [], ◌++◌}
use lib.ListN.{length}
use Rattle.lists.specs.Parts.{joined}
use Rattle.lists.proofs.PartLaws.{joined_front}
use Rattle.tables.specs.declared.Tables.{Tables}
use Rattle.text.specs.Appending.{Appends, Countable}
use Rattle.text.proofs.Appending.{append_as, append_none}
use Rattle.saved.specs.declared.Row.{Row}
use Rattle.saved.specs.Save.{last_row}
use Rattle.saved_blocks.specs.Blocks.{blocks, block, line_of, lines_of}
use Rattle.saved_blocks.proofs.BlockLaws.{block_last}
use Rattle.text_blocks.proofs.Lines.{lines_none, lines_one, front_short, more_room, more_put}

-- ---- a block in other words
module _ (t : Tables) (m : ℕ) (rows : List Row) (is : block t m ≡ rows) where
  pub block_room : (at : ℕ) → Countable at (lines_of (block t m)) → Countable at (lines_of rows)
  block_room at room = subst (λ (rs : List Row). Countable at (lines_of rs)) is room

  pub block_put : (out out' : List ℕ) (at r : ℕ) → Appends (lines_of rows) out out' at r → Appends (lines_of (block t m)) out out' at r
  block_put out out' at r put = append_as _ _ out out' at r (ap lines_of (sym is)) put

-- the blocks of one line
module _ (t : Tables) (m : ℕ) (low : m < 32) where
  one_line : lines_of (block t m) ≡ line_of (last_row t m)
  one_line = ap lines_of (block_last t m low) ∙ lines_one (last_row t m)

  pub last_room : (at : ℕ) → Countable at (lines_of (block t m)) → Countable at (line_of (last_row t m))
  last_room at room = subst (Countable at) one_line room

  pub last_put : (out out' : List ℕ) (at r : ℕ) → Appends (line_of (last_row t m)) out out' at r → Appends (lines_of (block t m)) out out' at r
  last_put out out' at r put = append_as _ _ out out' at r (sym one_line) put

-- ---- where the loop stands
module _ (t : Tables) where
  abbrev rows_to : ℕ → List Row
  rows_to m = joined m (block t)

  pub record Round (out₀ : List ℕ) (at : ℕ) (out : List ℕ) (end m : ℕ) : Type 0 where
    pub long : length out ≡ length out₀
    pub text : Appends (lines_of (rows_to m)) out₀ out at end

  none_yet : lines_of (rows_to 0) ≡ []
  unfolding joined
  none_yet = lines_none

  pub round_none : (out : List ℕ) (at : ℕ) → Round out at out at 0
  round_none out at = record { long = refl; text = append_as _ _ out out at at (sym none_yet) (append_none out at) }

  rows_more : (m : ℕ) → rows_to (m + 1) ≡ rows_to m ++ block t m
  unfolding joined
  rows_more m = rw (add-one m) refl

  module _ (out₀ : List ℕ) (at : ℕ) (out : List ℕ) (end m : ℕ) (round : Round out₀ at out end m) where
    pub round_end : m ≡ blocks → Appends (lines_of (rows_to blocks)) out₀ out at end
    round_end all =
        append_as _ _ out₀ out at end (ap (λ (n : ℕ). lines_of (rows_to n)) all) round.text

    module _ (h : m < blocks) where
      pub round_room : Countable at (lines_of (rows_to blocks)) → Countable end (lines_of (block t m))
      round_room room =
          let short = front_short (rows_to (m + 1)) (rows_to blocks) (joined_front (m + 1) blocks (block t) (omega arith)) in
          let part : Countable at (lines_of (rows_to m ++ block t m))
          = subst (λ (rs : List Row). Countable at (lines_of rs)) (rows_more m) (omega (arith, room, short)) in
          more_room (rows_to m) (block t m) out₀ out at end round.text part

      pub round_more : (out' : List ℕ) (r : ℕ) → Appends (lines_of (block t m)) out out' end r → Round out₀ at out' r (m + 1)
      round_more out' r put = record {
        long = put.kept ∙ round.long;
        text = append_as _ _ out₀ out' at r (ap lines_of (sym (rows_more m)))
            (more_put (rows_to m) (block t m) out₀ out at end round.text out' r put);
      }
