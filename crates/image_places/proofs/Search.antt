-- A search from the end back to the front: after the places from i on, the lowest of them that passes, or the length.
use Prim.Native.Nat.{ℕ, suc, ◌+◌, ◌-◌, ◌≤◌, ◌<◌}
use native.Mathlib.Omega.{arith}
use mathlib.Core.Path.{◌≡◌, ap, ◌∙◌}
use mathlib.Core.Bool.{Bool, true, false, cond}
use mathlib.Core.List.{List}
use lib.ListN.{length, get_or, drop, drop_of_length-le}
use Rattle.lists.specs.Lists.{first_index}
use Rattle.lists.proofs.Loops.{first_from}

module _ {A : Type 0} (f : A → Bool) (l : List A) (d : A) where
  abbrev pub Lowest : ℕ → ℕ → Type 0
  Lowest i found = found ≡ i + first_index f (drop i l)

  pub lowest_none : Lowest (length l) (length l)
  unfolding first_index
  lowest_none =
      let h : length l ≤ length l = omega arith in
      let q : first_index f (drop (length l) l) ≡ 0 = ap (first_index f) (drop_of_length-le l h) in
      omega arith

  module _ (i found : ℕ) (h : 0 < i) (b : i ≤ length l) (so : Lowest i found) where
    back : i - 1 + 1 ≡ i
    back = omega arith

    here : (r : Bool) → f (get_or l (i - 1) d) ≡ r → i - 1 + first_index f (drop (i - 1) l) ≡ i - 1 + cond r 0 (suc (first_index f (drop i l)))
    here r e =
        first_from f l d (i - 1) (omega arith) ∙ ap (λ (c : Bool). i - 1 + cond c 0 (suc (first_index f (drop (i - 1 + 1) l)))) e
        ∙ ap (λ (j : ℕ). i - 1 + cond r 0 (suc (first_index f (drop j l)))) back

    pub lowest_hit : f (get_or l (i - 1) d) ≡ true → Lowest (i - 1) (i - 1)
    lowest_hit e = let q = here true e in omega arith

    pub lowest_miss : f (get_or l (i - 1) d) ≡ false → Lowest (i - 1) found
    lowest_miss e = let q = here false e in omega arith
