-- A mask is a number with one bit: `&` with it tells that bit of a byte, `|` with it sets that bit and no other.
use Prim.Native.Nat.{ℕ, zero, suc, ◌*◌, ◌/◌, ◌%◌, ◌^◌, ◌<◌, max}
use native.Mathlib.Omega.{arith}
use native.Mathlib.Nat.{zero-mul, one-mul, mul-add-mod_self_right}
use mathlib.Core.Path.{◌≡◌, refl, sym, ap, ◌∙◌}
use mathlib.Core.Bool.{false, not, ◌||◌, or_comm}
use mathlib.Core.List.{List}
use lib.Dec.{eqb}
use lib.Bits.{bit_and, bit_or, and_high, or_shr, or_step}
use lib.Pow.{high_ones, pow_pos}
use lib.ListN.{length, get_or, set}
use lib.Seq.{get_or-set_same, get_or-set_other}
use borrow.Author.Tests.{eqb-true, eqb-false, eq-eqb, ne_eqb}
use Rattle.lists.proofs.Tests.{Case, pass, fail, case, cannot_pass, both_ways}
use Rattle.lists.proofs.Below.{agree_at}
use Rattle.text_marks.specs.Marks.{has_bit, marked_in, with_mark}

-- ---- telling
-- what `&` leaves is the bit, at its place
bit_left : (b i : ℕ) → bit_and b (2 ^ i) ≡ b / 2 ^ i % 2 * 2 ^ i
bit_left b i = ap (bit_and b) (sym (high_ones 1 i ∙ one-mul (2 ^ i))) ∙ and_high b 1 i

not_none : (x p : ℕ) → x < 2 → 0 < p → not (eqb (x * p) 0) ≡ eqb x 1
not_none zero p low positive = rw (zero-mul p) refl
not_none (suc zero) p low positive = rw (one-mul p, ne_eqb p 0 (λ z. omega arith)) refl
not_none (suc (suc x)) p low positive = absurd (omega arith)

pub mask_tells : (b i : ℕ) → not (eqb (bit_and b (2 ^ i)) 0) ≡ has_bit b i
mask_tells b i = rw (bit_left b i) (not_none (b / 2 ^ i % 2) (2 ^ i) (omega arith) (pow_pos i))

-- ---- setting
-- `|` has the bits of both
or_odd : (a b : ℕ) → eqb (bit_or a b % 2) 1 ≡ (eqb (a % 2) 1 || eqb (b % 2) 1)
or_odd a b =
    let lowest : bit_or a b % 2 ≡ max (a % 2) (b % 2) % 2 =
    ap (λ (k : ℕ). k % 2) (or_step a b) ∙ mul-add-mod_self_right (bit_or (a / 2) (b / 2)) 2 (max (a % 2) (b % 2)) in
    rw lowest (agree_at 2 2 (λ p q. eqb (max p q % 2) 1) (λ p q. eqb p 1 || eqb q 1) refl (a % 2) (b % 2) (omega arith) (omega arith))

or_bit : (a b j : ℕ) → has_bit (bit_or a b) j ≡ (has_bit a j || has_bit b j)
or_bit a b j = rw (or_shr a b j) (or_odd (a / 2 ^ j) (b / 2 ^ j))

-- a mask's one bit
mask_bit : (i j : ℕ) → i < 8 → j < 8 → has_bit (2 ^ i) j ≡ eqb j i
mask_bit = agree_at 8 8 (λ i j. has_bit (2 ^ i) j) (λ i j. eqb j i) refl

-- the place is marked then, and no other mark has changed
module _ (marks : List ℕ) (place : ℕ) (inside : place / 8 < length marks) where
  abbrev at : ℕ
  at = place / 8

  abbrev byte : ℕ
  byte = bit_or (get_or marks at 0) (2 ^ (place % 8))

  same_byte : (q : ℕ) → q / 8 ≡ at → has_bit byte (q % 8) ≡ (eqb q place || has_bit (get_or marks at 0) (q % 8))
  same_byte q same =
      let one_place_lem : eqb (q % 8) (place % 8) ≡ eqb q place =
      both_ways _ _ (λ e. eq-eqb q place (let low : q % 8 ≡ place % 8 = eqb-true _ _ e in omega (arith, same, low)))
      (λ e. eq-eqb (q % 8) (place % 8) (ap (λ (k : ℕ). k % 8) (eqb-true q place e))) in
      rw (or_bit (get_or marks at 0) (2 ^ (place % 8)) (q % 8), mask_bit (place % 8) (q % 8) (omega arith) (omega arith), one_place_lem)
      (or_comm (has_bit (get_or marks at 0) (q % 8)) (eqb q place))

  pub mark_set : marked_in (set marks at byte) ≡ with_mark place (marked_in marks)
  unfolding marked_in with_mark
  mark_set = λ i q. told q (case (eqb (q / 8) at)) i
    where
      told : (q : ℕ) → Case (eqb (q / 8) at)
          → has_bit (get_or (set marks at byte) (q / 8) 0) (q % 8) ≡ (eqb q place || has_bit (get_or marks (q / 8) 0) (q % 8))
      told q (pass e) =
          let same : q / 8 ≡ at = eqb-true (q / 8) at e in
          rw (same, get_or-set_same marks at byte 0 inside) (same_byte q same)
      told q (fail e) =
          let ne : q / 8 ≡ at → ⊥ = eqb-false (q / 8) at e in
          let other : eqb q place ≡ false = cannot_pass _ (λ z. ne (ap (λ (k : ℕ). k / 8) (eqb-true q place z))) in
          rw (get_or-set_other marks at (q / 8) byte 0 ne, other) refl
