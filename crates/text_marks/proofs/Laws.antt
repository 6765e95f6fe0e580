-- Laws of marks, for those who do not look into the bytes.
use Prim.Native.Nat.{ℕ, zero, suc, ◌/◌, ◌%◌, ◌^◌, ◌≤◌, ◌<◌}
use native.Mathlib.Omega.{arith}
use native.Mathlib.Nat.{zero-div}
use mathlib.Core.Path.{◌≡◌, refl, sym, ap, ◌∙◌}
use mathlib.Core.Bool.{Bool, true, false, not}
use lib.Dec.{eqb}
use lib.ListN.{replicate}
use borrow.Author.Tests.{eqb-true, eqb-false, eq-eqb}
use Rattle.lists.proofs.Tests.{Case, pass, fail, case, cannot_pass}
use Rattle.lists.proofs.Reading.{same_all}
use Rattle.lists.specs.Lists.{count_below}
use Rattle.lists.proofs.Counting.{count_same, count_most}
use Rattle.text_marks.specs.Marks.{marked_in, with_mark, unmarked}

pub with_same : (place : ℕ) (marked : ℕ → Bool) (q : ℕ) → eqb q place ≡ true → with_mark place marked q ≡ true
unfolding with_mark
with_same place marked q e = rw e refl

pub with_other : (place : ℕ) (marked : ℕ → Bool) (q : ℕ) → eqb q place ≡ false → with_mark place marked q ≡ marked q
unfolding with_mark
with_other place marked q e = rw e refl

-- ---- one place less
module _ (place : ℕ) (marked : ℕ → Bool) (clear : marked place ≡ false) where
  abbrev f : ℕ → Bool
  f q = not (marked q)

  abbrev g : ℕ → Bool
  g q = not (with_mark place marked q)

  at_place : f place ≡ true
  at_place = rw clear refl

  at_place' : g place ≡ false
  at_place' = rw (with_same place marked place (eq-eqb place place refl)) refl

  elsewhere : (q : ℕ) → eqb q place ≡ false → f q ≡ g q
  elsewhere q e = ap not (sym (with_other place marked q e))

  fewer_below : (n : ℕ) → place < n → count_below n f ≡ suc (count_below n g)
  unfolding count_below
  fewer_below zero b = absurd (omega arith)
  fewer_below (suc n) b = go (case (eqb n place)) (fewer_below n)
    where
      go : Case (eqb n place) → (place < n → count_below n f ≡ suc (count_below n g)) → count_below (suc n) f ≡ suc (count_below (suc n) g)
      go (pass e) later =
          let q : n ≡ place = eqb-true n place e in
          let same : count_below n f ≡ count_below n g = count_same f g n (λ k b. elsewhere k (apart k b q)) in
          let one : f n ≡ true = ap f q ∙ at_place in
          let none : g n ≡ false = ap g q ∙ at_place' in
          rw (one, none, same) (omega arith)
        where
          apart : (k : ℕ) → k < n → n ≡ place → eqb k place ≡ false
          apart k b q = cannot_pass _ (λ e. (let z : k ≡ place = eqb-true k place e in omega arith))
      go (fail e) later =
          let ne : n ≡ place → ⊥ = eqb-false n place e in
          let same : f n ≡ g n = elsewhere n e in
          rw (later (omega arith), same) (omega arith)

  -- "unmarked places fall": a mark more is a place less
  pub one_less : place < 256 → unmarked marked ≡ suc (unmarked (with_mark place marked))
  unfolding unmarked
  one_less b = fewer_below 256 b

pub none_marked : (n q : ℕ) → marked_in (replicate n 0) q ≡ false
unfolding marked_in
none_marked n q = rw (same_all {A = ℕ} n 0 (q / 8), zero-div (2 ^ (q % 8))) refl

pub unmarked_most : (marked : ℕ → Bool) → unmarked marked ≤ 256
unfolding unmarked
unmarked_most marked = count_most 256 (λ q. not (marked q))
