-- Lines put behind lines: one in other words, all of a front part, one more.
use Prim.Native.Nat.{ℕ, ◌+◌, ◌≤◌}
use native.Mathlib.Omega.{arith}
use mathlib.Core.Path.{◌≡◌, refl, sym, ap, subst, ◌∙◌}
use mathlib.Core.List.{List, [], ◌∷◌, ◌++◌, flat_map, append-nil}
use lib.ListN.{length, length-append}
use Rattle.lists.proofs.PartLaws.{Begins}
use Rattle.lists.proofs.MemberLaws.{flat_append}
use Rattle.text.specs.Appending.{Appends, Countable}
use Rattle.text.proofs.Appending.{append_as, append_both}
use Rattle.saved.specs.declared.Row.{Row}
use Rattle.saved_blocks.specs.Blocks.{line_of, lines_of}

-- ---- a line in other words
module _ (r s : Row) (same : r ≡ s) where
  pub line_room_lem : (at : ℕ) → Countable at (line_of s) → Countable at (line_of r)
  line_room_lem at room = subst (λ (x : Row). Countable at (line_of x)) (sym same) room

  pub line_put : (out out' : List ℕ) (at k : ℕ) → Appends (line_of r) out out' at k → Appends (line_of s) out out' at k
  line_put out out' at k put = append_as _ _ out out' at k (ap line_of same) put

-- ---- lines
pub lines_none : lines_of [] ≡ []
unfolding flat_map
lines_none = refl

pub lines_one : (r : Row) → lines_of (r ∷ []) ≡ line_of r
unfolding flat_map
lines_one r = append-nil (line_of r)

pub lines_both : (rs ss : List Row) → lines_of (rs ++ ss) ≡ lines_of rs ++ lines_of ss
lines_both rs ss = flat_append line_of rs ss

-- a front part has room where the whole has
module _ (front whole : List Row) (b : Begins front whole) where
  pub front_short : length (lines_of front) ≤ length (lines_of whole)
  front_short =
      let parts : length (lines_of whole) ≡ length (lines_of front) + length (lines_of b.rest)
      = ap (λ (rs : List Row). length (lines_of rs)) b.same ∙ ap length (lines_both front b.rest) ∙ length-append (lines_of front) (lines_of b.rest) in
      omega (arith, parts)

-- lines behind lines
module _ (rs ss : List Row) (out out₁ : List ℕ) (at k : ℕ) (put : Appends (lines_of rs) out out₁ at k) where
  pub more_room : Countable at (lines_of (rs ++ ss)) → Countable k (lines_of ss)
  more_room room =
      let long : length (lines_of (rs ++ ss)) ≡ length (lines_of rs) + length (lines_of ss)
      = ap length (lines_both rs ss) ∙ length-append (lines_of rs) (lines_of ss) in
      omega (arith, room, long, put.total)

  pub more_put : (out₂ : List ℕ) (r : ℕ) → Appends (lines_of ss) out₁ out₂ k r → Appends (lines_of (rs ++ ss)) out out₂ at r
  more_put out₂ r next = append_as _ _ out out₂ at r (sym (lines_both rs ss)) (append_both _ _ out out₁ out₂ at k r put next)
