-- The place of a program's number, and of a parent: what the code's tests tell of it.
use Prim.Native.Nat.{ℕ, ◌+◌, ◌*◌, ◌≤◌, ◌<◌}
use native.Mathlib.Omega.{arith}
use mathlib.Core.Path.{◌≡◌, refl, sym, ap, subst, ◌∙◌}
use mathlib.Core.Logic.{◌⊎◌, inl, inr, ⊎_elim}
use mathlib.Core.Bool.{Bool, true, false, ◌||◌, cond}
use mathlib.Core.List.{List}
use lib.Dec.{eqb, leb, ltb}
use lib.ListN.{take, drop}
use borrow.Author.Tests.{eqb-true, eqb-false, eq-eqb, ne_eqb, ltb-true, ltb-false, lt-ltb, le-ltb, leb-true, leb-false, le-leb, lt-leb}
use Rattle.lists.specs.Lists.{first_index}
use Rattle.lists.proofs.Tests.{Case, pass, fail, case}
use Rattle.tables.specs.declared.{Kind.Kind, Ticket.Ticket}
use Rattle.tables.specs.declared.Kind.TheVariants.{Free, Taken, Received, Child, Recall}
use Rattle.image_pads.specs.Places.{place_in, up_by, up_of}

-- ---- the place of a program's number
-- any of three tests, and none
first_test : (a b c : Bool) (x y : ℕ) → a ≡ true → x ≡ cond (a || b || c) x y
first_test a b c x y e = rw e

second_test : (a b c : Bool) (x y : ℕ) → b ≡ true → x ≡ cond (a || b || c) x y
second_test true b c x y e = refl
second_test false b c x y e = rw e

third_test : (a b c : Bool) (x y : ℕ) → c ≡ true → x ≡ cond (a || b || c) x y
third_test true b c x y e = refl
third_test false true c x y e = refl
third_test false false c x y e = rw e

no_test : (a b c : Bool) (x y : ℕ) → a ≡ false → b ≡ false → c ≡ false → y ≡ cond (a || b || c) x y
no_test a b c x y e f g = rw (e, f, g)

module _ (numbers : List ℕ) (b m : ℕ) where
  -- where the number stands in the program's row
  abbrev pub index_in : ℕ
  index_in = first_index (λ j. eqb j m) (take 8 (drop (8 * b) numbers))

  pub row_index : (k : ℕ) → k ≡ 8 → first_index (λ j. eqb j m) (take k (drop (8 * b) numbers)) ≡ index_in
  row_index k e = ap (λ (w : ℕ). first_index (λ j. eqb j m) (take w (drop (8 * b) numbers))) e

  pub place_none : m ≡ 0 → 64 ≡ place_in numbers b m
  unfolding place_in
  place_none e = first_test (eqb m 0) (ltb 7 b) (leb 8 index_in) 64 (8 * b + index_in) (eq-eqb m 0 e)

  place_out : 7 < b → 64 ≡ place_in numbers b m
  unfolding place_in
  place_out h = second_test (eqb m 0) (ltb 7 b) (leb 8 index_in) 64 (8 * b + index_in) (lt-ltb 7 b h)

  -- i is what the search found
  module _ (i : ℕ) (e : i ≡ index_in) where
    place_missing : 8 ≤ i → 64 ≡ place_in numbers b m
    unfolding place_in
    place_missing h =
        third_test (eqb m 0) (ltb 7 b) (leb 8 index_in) 64 (8 * b + index_in) (le-leb 8 index_in (subst (λ (j : ℕ). 8 ≤ j) e h))

    pub place_here : (m ≡ 0 → ⊥) → b ≤ 7 → i < 8 → 8 * b + i ≡ place_in numbers b m
    unfolding place_in
    place_here n h l =
        ap (λ (j : ℕ). 8 * b + j) e
        ∙ no_test (eqb m 0) (ltb 7 b) (leb 8 index_in) 64 (8 * b + index_in) (ne_eqb m 0 n) (le-ltb 7 b h) (lt-leb 8 index_in (subst (λ (j : ℕ). j < 8) e l))

  -- what a place below 64 tells
  pub record Placed : Type 0 where
    pub number : m ≡ 0 → ⊥
    pub program : b < 8
    pub index : index_in < 8
    pub place : place_in numbers b m ≡ 8 * b + index_in

  pub place_cases : (64 ≡ place_in numbers b m) ⊎ Placed
  place_cases = go (case (eqb m 0)) (case (ltb 7 b)) (case (leb 8 index_in))
    where
      go : Case (eqb m 0) → Case (ltb 7 b) → Case (leb 8 index_in) → (64 ≡ place_in numbers b m) ⊎ Placed
      go (pass e) _ _ = inl (place_none (eqb-true m 0 e))
      go (fail e) (pass f) _ = inl (place_out (ltb-true 7 b f))
      go (fail e) (fail f) (pass g) = inl (place_missing index_in refl (leb-true 8 index_in g))
      go (fail e) (fail f) (fail g) =
          let l : index_in < 8 = leb-false 8 index_in g in
          let c : b ≤ 7 = ltb-false 7 b f in
          inr (record { number = eqb-false m 0 e; program = omega arith; index = l; place = sym (place_here index_in refl (eqb-false m 0 e) c l) })

  pub placed : place_in numbers b m < 64 → Placed
  placed h = ⊎_elim (λ e. absurd (omega (arith, h, e))) (λ p. p) place_cases

  pub place_fits : place_in numbers b m ≤ 64
  place_fits = ⊎_elim (λ e. omega (arith, e)) (λ p. omega (arith, p.place, p.program, p.index)) place_cases

-- ---- the place of a parent
up_by_fits : (q : Kind) (numbers : List ℕ) (program : ℕ) (k : Ticket) → up_by q numbers program k ≤ 64
up_by_fits Free numbers program k = omega arith
up_by_fits Taken numbers program k = omega arith
up_by_fits Received numbers program k = omega arith
up_by_fits Child numbers program k = place_fits numbers k.other.program k.other.number
up_by_fits Recall numbers program k = place_fits numbers program k.own

module _ (numbers : List ℕ) (program : ℕ) (k : Ticket) where
  pub up_fits : up_of numbers program k ≤ 64
  unfolding up_of
  up_fits = up_by_fits k.kind numbers program k
