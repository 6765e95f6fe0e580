-- Laws for loops over an index: where a search or a test of all elements stands after i turns, one more turn, and the end.
use Prim.Native.Nat.{ℕ, suc, ◌+◌, ◌≤◌, ◌<◌}
use native.Mathlib.Numerals.{add-one}
use native.Mathlib.Omega.{arith}
use mathlib.Core.Path.{◌≡◌, sym, ap, subst, ◌∙◌}
use mathlib.Core.Bool.{Bool, true, false, ◌&&◌, cond}
use mathlib.Core.List.{List}
use lib.Dec.{eqb}
use lib.ListN.{length, get_or, drop, drop_of_length-le}
use lib.Seq.{drop-cons}
use borrow.Author.Tests.{eqb-true, eqb-false}
use Rattle.lists.specs.Lists.{first_index, all, all_at}
use Rattle.lists.proofs.Tests.{Case, pass, fail, case, cannot_pass, no_true}
use Rattle.lists.proofs.Everywhere.{all_elim, all_at_elim}

module _ {A : Type 0} (f : A → Bool) (l : List A) where
  pub first_end : (i : ℕ) → length l ≤ i → first_index f l ≡ i + first_index f (drop i l) → i ≡ first_index f l
  unfolding first_index
  first_end i h p =
      let q : first_index f (drop i l) ≡ 0 = ap (first_index f) (drop_of_length-le l h) in
      omega arith

  pub all_end_lem : (i : ℕ) → length l ≤ i → all f l ≡ all f (drop i l) → true ≡ all f l
  unfolding all
  all_end_lem i h p = sym (p ∙ ap (all f) (drop_of_length-le l h))

module _ {A : Type 0} (f : A → Bool) (l : List A) (d : A) where
  -- the search from index i: what is left to find
  pub first_from : (i : ℕ) → i < length l → i + first_index f (drop i l) ≡ i + cond (f (get_or l i d)) 0 (suc (first_index f (drop (i + 1) l)))
  unfolding first_index
  first_from i h = rw (add-one, drop-cons l i d)

  pub first_miss : (i : ℕ) → i < length l → f (get_or l i d) ≡ false → first_index f l ≡ i + first_index f (drop i l) → first_index f l ≡ i + 1 + first_index f (drop (i + 1) l)
  first_miss i h e p =
      let q : i + first_index f (drop i l) ≡ i + suc (first_index f (drop (i + 1) l)) = first_from i h ∙ ap (λ (b : Bool). i + cond b 0 (suc (first_index f (drop (i + 1) l)))) e in
      omega arith

  pub first_hit : (i : ℕ) → i < length l → f (get_or l i d) ≡ true → first_index f l ≡ i + first_index f (drop i l) → i ≡ first_index f l
  first_hit i h e p =
      let q : i + first_index f (drop i l) ≡ i + 0 = first_from i h ∙ ap (λ (b : Bool). i + cond b 0 (suc (first_index f (drop (i + 1) l)))) e in
      omega arith

  pub all_from : (i : ℕ) → i < length l → all f (drop i l) ≡ (f (get_or l i d) && all f (drop (i + 1) l))
  unfolding all
  all_from i h = rw (add-one, drop-cons l i d)

  pub all_pass : (i : ℕ) → i < length l → f (get_or l i d) ≡ true → all f l ≡ all f (drop i l) → all f l ≡ all f (drop (i + 1) l)
  all_pass i h e p = p ∙ all_from i h ∙ ap (λ (b : Bool). b && all f (drop (i + 1) l)) e

  pub all_fail : (i : ℕ) → i < length l → f (get_or l i d) ≡ false → all f l ≡ all f (drop i l) → false ≡ all f l
  all_fail i h e p = sym (p ∙ all_from i h ∙ ap (λ (b : Bool). b && all f (drop (i + 1) l)) e)

-- ---- what holds of every place so far
pub so_far : {P : ℕ → Type 0} (i : ℕ) → ((j : ℕ) → j < i → P j) → P i → (j : ℕ) → j < i + 1 → P j
so_far {P} i before here j h = go (case (eqb j i))
  where
    go : Case (eqb j i) → P j
    go (pass e) = subst P (sym (eqb-true j i e)) here
    go (fail e) = before j (omega (arith, eqb-false j i e))

module _ {A : Type 0} (d : A) where
  pub all_broken : (f : A → Bool) (l : List A) (i : ℕ) → i < length l → f (get_or l i d) ≡ false → false ≡ all f l
  all_broken f l i h e = sym (cannot_pass (all f l) (λ p. no_true (sym e ∙ all_elim d f l p i h)))

  pub all_at_broken : (f : ℕ → A → Bool) (l : List A) (i : ℕ) → i < length l → f i (get_or l i d) ≡ false → false ≡ all_at f 0 l
  all_at_broken f l i h e = sym (cannot_pass (all_at f 0 l) (λ p. no_true (sym e ∙ all_at_elim d f l p i h)))
