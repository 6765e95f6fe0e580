-- A part of a list written anew: what stands outside it stays, and the list from there on begins with what was written.
use Prim.Native.Nat.{ℕ, ◌+◌, ◌-◌, ◌≤◌, ◌<◌}
use native.Mathlib.Omega.{arith}
use mathlib.Core.Path.{◌≡◌, sym, ap, ◌∙◌}
use mathlib.Core.Logic.{◌⊎◌, inl, inr}
use mathlib.Core.List.{List, ◌++◌}
use lib.ListN.{length, get_or, take, drop, length-take, length-drop, length-append, get_or-append}
use lib.Seq.{get_or-take, get_or-drop, get_or-append-add, drop_at}
use borrow.Rule.Slice.PartMut.{put_mid}
use Rattle.lists.proofs.PartLaws.{Begins}

-- the n places from s on lie outside the w from a on
abbrev pub Outside : ℕ → ℕ → ℕ → ℕ → Type 0
Outside a w s n = (s + n ≤ a) ⊎ (a + w ≤ s)

module _ (a w : ℕ) (xs ys : List ℕ) (fits : a + w ≤ length xs) (long : length ys ≡ w) where
  abbrev written : List ℕ
  written = put_mid a w xs ys

  front_long : length (take a xs) ≡ a
  front_long = simp length-take (omega (arith, fits))

  before : (j : ℕ) → j < a → get_or written j 0 ≡ get_or xs j 0
  before j h = get_or-append (take a xs) (ys ++ drop w (drop a xs)) 0 j (omega (arith, front_long)) ∙ get_or-take a xs j 0 h

  behind : (j : ℕ) → a + w ≤ j → get_or written j 0 ≡ get_or xs j 0
  behind j h =
      let i : ℕ = j - (a + w) in
      let e : j ≡ length (take a xs) + (length ys + i) = omega (arith, front_long, long) in
      let f : a + (w + i) ≡ j = omega (arith, h) in
      ap (λ (m : ℕ). get_or written m 0) e
      ∙ get_or-append-add (take a xs) (ys ++ drop w (drop a xs)) (length ys + i) 0
      ∙ get_or-append-add ys (drop w (drop a xs)) i 0
      ∙ get_or-drop w (drop a xs) i 0
      ∙ get_or-drop a xs (w + i) 0
      ∙ ap (λ (m : ℕ). get_or xs m 0) f

  pub stays_outside : (s n : ℕ) → Outside a w s n → (j : ℕ) → j < n → get_or (drop s written) j 0 ≡ get_or (drop s xs) j 0
  stays_outside s n o j h = get_or-drop s written j 0 ∙ go o ∙ sym (get_or-drop s xs j 0)
    where
      go : Outside a w s n → get_or written (s + j) 0 ≡ get_or xs (s + j) 0
      go (inl low) = before (s + j) (omega (arith, low, h))
      go (inr high) = behind (s + j) (omega (arith, high))

  pub begins_there : Begins ys (drop a written)
  begins_there = record { rest = drop w (drop a xs); same = drop_at (take a xs) (ys ++ drop w (drop a xs)) a front_long }

  pub length_written : length written ≡ length xs
  length_written =
      length-append (take a xs) (ys ++ drop w (drop a xs))
      ∙ omega (arith, front_long, long, fits, length-append ys (drop w (drop a xs)), length-drop w (drop a xs), length-drop a xs)
