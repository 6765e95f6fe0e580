-- Two texts compared byte for byte; and a text's first line, found by the byte that ends it.
use Prim.Native.Nat.{ℕ, suc, ◌+◌}
use native.Mathlib.Omega.{arith}
use mathlib.Core.Path.{◌≡◌, refl, ap, ◌∙◌}
use mathlib.Core.Bool.{true, false, cond}
use mathlib.Core.List.{List, [], ◌∷◌}
use Rattle.std.specs.Cmp.Lexicographic.{pointwise}
use Rattle.std.specs.Prelude.{Ok, Err}
use lib.Dec.{eqb}
use lib.ListN.{length, take, drop, drop_of_length-le}
use borrow.Author.Tests.{eqb-true, eqb-false}
use Rattle.lists.proofs.Tests.{Case, pass, fail, case}
use Rattle.text.specs.Bytes.{line_end, same_bytes}
use Rattle.text.specs.Reading.{cut, lines}
use Rattle.text.specs.Names.{named, behind_names, first_line_of}
use Rattle.text.proofs.ReadingLaws.{up_to, lines_first}

-- what `==` of two slices answers
pub same_pointwise : (a b : List ℕ) → pointwise eqb a b ≡ same_bytes a b
unfolding same_bytes
same_pointwise [] [] = refl
same_pointwise [] (y ∷ b) = refl
same_pointwise (x ∷ a) [] = refl
same_pointwise (x ∷ a) (y ∷ b) = rw (same_pointwise a b)

-- ---- the first line
module _ (names text : List ℕ) where
  pub no_first : (end : ℕ) → end ≡ up_to line_end text → eqb (length text) 0 ≡ true → Err end ≡ first_line_of names text
  unfolding first_line_of named lines cut
  no_first end ends h = rw (ends, drop_of_length-le text {i = 0} (omega (arith, eqb-true _ _ h)))

  pub first_is : (end : ℕ) → end ≡ up_to line_end text → eqb (length text) 0 ≡ false
      → first_line_of names text ≡ cond (same_bytes (take end text) names) (Ok end) (Err end)
  unfolding first_line_of named
  first_is end ends h = rw (ends, lines_first text (omega (arith, eqb-false _ _ h)))

  -- what it tells of the text
  pub other_first : (end : ℕ) → Err end ≡ first_line_of names text → named names (lines text) ≡ false
  unfolding first_line_of
  other_first end e = go (case (named names (lines text)))
    where
      go : Case (named names (lines text)) → named names (lines text) ≡ false
      go (pass t) = let q = rw t at e in cc
      go (fail f) = f

  pub first_named : (end : ℕ) → Ok end ≡ first_line_of names text → (named names (lines text) ≡ true) × (end ≡ up_to line_end text)
  unfolding first_line_of
  first_named end e = go (case (named names (lines text)))
    where
      go : Case (named names (lines text)) → (named names (lines text) ≡ true) × (end ≡ up_to line_end text)
      go (pass t) = let q = rw t at e in (t, cc)
      go (fail f) = let q = rw f at e in cc

-- behind it stand the later lines
behind_first : (text : List ℕ) → behind_names (lines text) ≡ lines (drop (suc (up_to line_end text)) text)
unfolding behind_names lines cut
behind_first [] = refl
behind_first (x ∷ xs) = ap behind_names (lines_first (x ∷ xs) (omega arith))

pub lines_behind : (text : List ℕ) (end : ℕ) → end ≡ up_to line_end text → behind_names (lines text) ≡ lines (drop (end + 1) text)
lines_behind text end ends =
    let e : suc (up_to line_end text) ≡ end + 1 = omega arith in
    behind_first text ∙ ap (λ (n : ℕ). lines (drop n text)) e
