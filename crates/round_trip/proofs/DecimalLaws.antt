-- Digits and the number that they make: either is had back from the other, and a number has as many places as its digits without a 0 in
-- front.
use Prim.Native.Nat.{ℕ, zero, suc, ◌+◌, ◌-◌, ◌*◌, ◌/◌, ◌%◌, ◌≤◌, ◌<◌}
use native.Mathlib.Omega.{arith}
use mathlib.Core.Path.{◌≡◌, refl, sym, ap, ◌∙◌}
use mathlib.Core.Bool.{true, false}
use mathlib.Core.List.{List, [], ◌∷◌, ◌++◌, append-nil}
use lib.Dec.{ltb, eqb}
use lib.ListN.{length, get_or, get_or-append}
use lib.Seq.{append_snoc}
use borrow.Author.Tests.{ltb-true, ltb-false, eqb-false, ne_eqb, not-true}
use Rattle.lists.specs.Lists.{all}
use Rattle.lists.proofs.Tests.{Case, pass, fail, case, no_true, and_l, and_r, and_intro, not_test, between_low, between_high, between_test}
use Rattle.lists.proofs.Everywhere.{all_append}
use Rattle.text.specs.Reading.{is_digit, number_from, number, no_leading_zero}
use Rattle.text.specs.Writing.{digits, places, decimal}
use Rattle.text.proofs.WritingLaws.{length_digits, places_1, places_2, places_3, places_4, places_5}

-- ---- s with k zeros behind
unfoldable scaled : ℕ → ℕ → ℕ
scaled s zero = s
scaled s (suc k) = scaled (s * 10) k

scaled_low : (s t k : ℕ) → s ≤ t → scaled s k ≤ scaled t k
unfolding scaled
scaled_low s t zero h = h
scaled_low s t (suc k) h = scaled_low (s * 10) (t * 10) k (omega arith)

scaled_ten : (s k : ℕ) → scaled (s * 10) k ≡ scaled s k * 10
unfolding scaled
scaled_ten s zero = refl
scaled_ten s (suc k) = scaled_ten (s * 10) k

scaled_more : (s k : ℕ) → s ≤ scaled s k
unfolding scaled
scaled_more s zero = omega arith
scaled_more s (suc k) = omega (arith, scaled_more (s * 10) k)

-- ---- from digits to the number and back
digit_low : (b : ℕ) → is_digit b ≡ true → 48 ≤ b
unfolding is_digit
digit_low b e = between_low 48 57 b e

digit_high : (b : ℕ) → is_digit b ≡ true → b ≤ 57
unfolding is_digit
digit_high b e = between_high 48 57 b e

-- the digits of s, and behind them those given
digits_from : (k s : ℕ) (l : List ℕ) → all is_digit l ≡ true → digits (k + length l) (number_from s l) ≡ digits k s ++ l
unfolding all digits number_from
digits_from k s [] e =
    let z : k + 0 ≡ k = omega arith in
    rw z (sym (append-nil (digits k s)))
digits_from k s (b ∷ l) e =
    let d : is_digit b ≡ true = and_l (is_digit b) (all is_digit l) e in
    let t = s * 10 + (b - 48) in
    let z : k + suc (length l) ≡ suc k + length l = omega arith in
    let q : t / 10 ≡ s = omega (arith, digit_low b d, digit_high b d) in
    let r : 48 + t % 10 ≡ b = omega (arith, digit_low b d, digit_high b d) in
    rw z (digits_from (suc k) t l (and_r (is_digit b) (all is_digit l) e) ∙ rw (q, r) (append_snoc (digits k s) b l))

number_low : (s : ℕ) (l : List ℕ) → scaled s (length l) ≤ number_from s l
unfolding scaled number_from
number_low s [] = omega arith
number_low s (b ∷ l) =
    let t = s * 10 + (b - 48) in
    omega (arith, scaled_low (s * 10) t (length l) (omega arith), number_low t l)

number_high : (s : ℕ) (l : List ℕ) → all is_digit l ≡ true → number_from s l < scaled (s + 1) (length l)
unfolding all scaled number_from
number_high s [] e = omega arith
number_high s (b ∷ l) e =
    let t = s * 10 + (b - 48) in
    let h = digit_high b (and_l (is_digit b) (all is_digit l) e) in
    omega (arith, scaled_low (t + 1) ((s + 1) * 10) (length l) (omega (arith, h)), number_high t l (and_r (is_digit b) (all is_digit l) e))

number_snoc : (s : ℕ) (l : List ℕ) (b : ℕ) → number_from s (l ++ b ∷ []) ≡ number_from s l * 10 + (b - 48)
unfolding number_from
number_snoc s [] b = refl
number_snoc s (x ∷ l) b = number_snoc (s * 10 + (x - 48)) l b

number_digits : (k n : ℕ) → n < scaled 1 k → number (digits k n) ≡ n
unfolding digits scaled number_from
number_digits zero n h = omega arith
number_digits (suc k) n h =
    let e = scaled_ten 1 k in
    let ih : number (digits k (n / 10)) ≡ n / 10 = number_digits k (n / 10) (omega arith) in
    number_snoc 0 (digits k (n / 10)) (48 + n % 10) ∙ rw ih (omega arith)

digits_all : (k n : ℕ) → all is_digit (digits k n) ≡ true
unfolding digits all is_digit
digits_all zero n = refl
digits_all (suc k) n =
    all_append is_digit (digits k (n / 10)) ((48 + n % 10) ∷ []) (digits_all k (n / 10))
    (and_intro (between_test 48 57 (48 + n % 10) (omega arith) (omega arith)) refl)

pub digits_back : (l : List ℕ) → all is_digit l ≡ true → digits (length l) (number l) ≡ l
unfolding digits
digits_back l e =
    let z : 0 + length l ≡ length l = omega arith in
    ap (λ (k : ℕ). digits k (number l)) (sym z) ∙ digits_from 0 0 l e

-- ---- a 0 in front
leading : (k n : ℕ) → scaled 1 k ≤ n → n < scaled 1 (suc k) → eqb (get_or (digits (suc k) n) 0 0) 48 ≡ false
unfolding digits scaled
leading zero n low high = ne_eqb (48 + n % 10) 48 (λ e. omega arith)
leading (suc k) n low high =
    let e = scaled_ten 1 k in
    let f = scaled_ten 10 k in
    let long = length_digits (suc k) (n / 10) in
    ap (λ (b : ℕ). eqb b 48) (get_or-append (digits (suc k) (n / 10)) ((48 + n % 10) ∷ []) 0 0 (omega arith))
    ∙ leading k (n / 10) (omega arith) (omega arith)

no_zero : (l : List ℕ) → 0 < length l → eqb (get_or l 0 0) 48 ≡ false → no_leading_zero l ≡ true
unfolding no_leading_zero
no_zero [] h e = absurd (omega arith)
no_zero (b ∷ []) h e = refl
no_zero (b ∷ c ∷ l) h e = not_test (eqb b 48) e

-- a number of several places
places_of : (k n : ℕ) → scaled 1 (suc k) ≤ n → n < scaled 1 (suc (suc k)) → n ≤ 65535 → suc (suc k) ≡ places n
unfolding scaled
places_of zero n low high h = places_2 n low high
places_of (suc zero) n low high h = places_3 n low high
places_of (suc (suc zero)) n low high h = places_4 n low high
places_of (suc (suc (suc zero))) n low high h = places_5 n low
places_of (suc (suc (suc (suc k)))) n low high h = absurd (omega (arith, scaled_more 100000 k))

data Placed (n : ℕ) : Type 0 where
  one : n < 10 → Placed n
  more : (k : ℕ) → scaled 1 (suc k) ≤ n → n < scaled 1 (suc (suc k)) → Placed n

placed : (n : ℕ) → n ≤ 65535 → Placed n
unfolding scaled
placed n h = at (case (ltb n 10)) (case (ltb n 100)) (case (ltb n 1000)) (case (ltb n 10000))
  where
    at : Case (ltb n 10) → Case (ltb n 100) → Case (ltb n 1000) → Case (ltb n 10000) → Placed n
    at (pass a) b c d = one (ltb-true n 10 a)
    at (fail a) (pass b) c d = more 0 (ltb-false n 10 a) (ltb-true n 100 b)
    at (fail a) (fail b) (pass c) d = more 1 (ltb-false n 100 b) (ltb-true n 1000 c)
    at (fail a) (fail b) (fail c) (pass d) = more 2 (ltb-false n 1000 c) (ltb-true n 10000 d)
    at (fail a) (fail b) (fail c) (fail d) = more 3 (ltb-false n 10000 d) (omega arith)

-- ---- a number as text, and a text that is a number
module _ (n : ℕ) (h : n ≤ 65535) where
  digits_value : (k : ℕ) → k ≡ places n → n < scaled 1 k → no_leading_zero (digits k n) ≡ true
      → (no_leading_zero (decimal n) ≡ true) × (number (decimal n) ≡ n)
  unfolding decimal
  digits_value k e high lead = rw (← e) (lead, number_digits k n high)

  pub decimal_value : (no_leading_zero (decimal n) ≡ true) × (number (decimal n) ≡ n)
  unfolding scaled digits no_leading_zero
  decimal_value = at (placed n h)
    where
      at : Placed n → (no_leading_zero (decimal n) ≡ true) × (number (decimal n) ≡ n)
      at (one a) = digits_value 1 (places_1 n a) a refl
      at (more k low high) =
          digits_value (suc (suc k)) (places_of k n low high h) high
          (no_zero (digits (suc (suc k)) n) (omega (arith, length_digits (suc (suc k)) n)) (leading (suc k) n low high))

pub decimal_all : (n : ℕ) → all is_digit (decimal n) ≡ true
unfolding decimal
decimal_all n = digits_all (places n) n

pub places_field : (field : List ℕ) → no_leading_zero field ≡ true → all is_digit field ≡ true → number field ≤ 65535
    → length field ≡ places (number field)
unfolding no_leading_zero scaled all number_from
places_field [] lead e h = no_true lead
places_field (b ∷ []) lead e h = places_1 (number (b ∷ [])) (number_high 0 (b ∷ []) e)
places_field (b ∷ c ∷ l) lead e h =
    let d = digit_low b (and_l (is_digit b) (all is_digit (c ∷ l)) e) in
    let ne = eqb-false b 48 (not-true (eqb b 48) lead) in
    let t = 0 + (b - 48) in
    let low : scaled 1 (suc (length l)) ≤ number_from t (c ∷ l)
    = omega (arith, scaled_low 1 t (suc (length l)) (omega (arith, ne)), number_low t (c ∷ l)) in
    places_of (length l) (number (b ∷ c ∷ l)) low (number_high 0 (b ∷ c ∷ l) e) h
