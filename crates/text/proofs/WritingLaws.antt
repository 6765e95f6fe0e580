-- Laws of what is written: a text in an output, how many places a number has, digits put down from the last to the first.
use Prim.Native.Nat.{ℕ, zero, suc, ◌+◌, ◌-◌, ◌/◌, ◌%◌, ◌≤◌, ◌<◌}
use native.Mathlib.Omega.{arith}
use mathlib.Core.Path.{◌≡◌, refl, sym}
use mathlib.Core.Bool.{true}
use mathlib.Core.List.{List, ◌++◌}
use lib.Dec.{leb, ltb}
use lib.ListN.{length, set, drop, length-append, length-set}
use lib.Seq.{drop-cons, append_snoc, drop-set-lt, get_or-set_same}
use borrow.Author.Tests.{lt-ltb, le-ltb, le-leb, lt-leb, leb-true}
use Rattle.lists.proofs.Tests.{Case, pass, fail, case}
use Rattle.text.specs.Writing.{digits, places, decimal, written, written_length, Writes}

-- ---- a text in an output
module _ (text before : List ℕ) where
  pub writes_none : length before < length text → Writes text before before 0
  unfolding written written_length
  writes_none h = record { output = rw (lt-leb (length text) (length before) h); size = rw (lt-leb (length text) (length before) h) }

  pub writes_all : (after : List ℕ) (answer : ℕ) → length text ≤ length before → after ≡ text ++ drop (length text) before
      → answer ≡ length text → Writes text before after answer
  unfolding written written_length
  writes_all after answer h e a = record {
    output = rw (le-leb (length text) (length before) h) e;
    size = rw (le-leb (length text) (length before) h) a;
  }

  pub writes_fits : (after : List ℕ) (answer : ℕ) → length text ≤ length before → Writes text before after answer
      → (after ≡ text ++ drop (length text) before) × (answer ≡ length text)
  unfolding written written_length
  writes_fits after answer h w =
      let e : leb (length text) (length before) ≡ true = le-leb (length text) (length before) h in
      (rw e at w.output, rw e at w.size)

  pub written_within : (after : List ℕ) (answer : ℕ) → Writes text before after answer → answer ≤ length before
  unfolding written_length
  written_within after answer w = go (case (leb (length text) (length before)))
    where
      go : Case (leb (length text) (length before)) → answer ≤ length before
      go (pass e) = omega (arith, leb-true (length text) (length before) e, rw e at w.size)
      go (fail e) = omega (arith, rw e at w.size)

-- ---- how many digits
module _ (n : ℕ) where
  pub places_1 : n < 10 → 1 ≡ places n
  unfolding places
  places_1 a = rw (lt-ltb n 10 a)

  pub places_2 : 10 ≤ n → n < 100 → 2 ≡ places n
  unfolding places
  places_2 a b = rw (le-ltb n 10 a, lt-ltb n 100 b)

  pub places_3 : 100 ≤ n → n < 1000 → 3 ≡ places n
  unfolding places
  places_3 a b = rw (le-ltb n 10 (omega arith), le-ltb n 100 a, lt-ltb n 1000 b)

  pub places_4 : 1000 ≤ n → n < 10000 → 4 ≡ places n
  unfolding places
  places_4 a b = rw (le-ltb n 10 (omega arith), le-ltb n 100 (omega arith), le-ltb n 1000 a, lt-ltb n 10000 b)

  pub places_5 : 10000 ≤ n → 5 ≡ places n
  unfolding places
  places_5 a = rw (le-ltb n 10 (omega arith), le-ltb n 100 (omega arith), le-ltb n 1000 (omega arith), le-ltb n 10000 a)

  pub places_most : places n ≤ 5
  unfolding places
  places_most = go (case (ltb n 10)) (case (ltb n 100)) (case (ltb n 1000)) (case (ltb n 10000))
    where
      go : Case (ltb n 10) → Case (ltb n 100) → Case (ltb n 1000) → Case (ltb n 10000) → places n ≤ 5
      go (pass a) _ _ _ = rw a (omega arith)
      go (fail a) (pass b) _ _ = rw (a, b) (omega arith)
      go (fail a) (fail b) (pass c) _ = rw (a, b, c) (omega arith)
      go (fail a) (fail b) (fail c) (pass d) = rw (a, b, c, d) (omega arith)
      go (fail a) (fail b) (fail c) (fail d) = rw (a, b, c, d) (omega arith)

  -- a number of at most three digits
  pub places_short : n < 1000 → places n ≤ 3
  unfolding places
  places_short h = go (case (ltb n 10)) (case (ltb n 100))
    where
      go : Case (ltb n 10) → Case (ltb n 100) → places n ≤ 3
      go (pass a) _ = rw a (omega arith)
      go (fail a) (pass b) = rw (a, b) (omega arith)
      go (fail a) (fail b) = rw (a, b, lt-ltb n 1000 h) (omega arith)

-- ---- digits
pub length_digits : (count n : ℕ) → length (digits count n) ≡ count
unfolding digits
length_digits zero n = refl
length_digits (suc count) n =
    let e : length (digits count (n / 10)) ≡ count = length_digits count (n / 10) in
    simp length-append (omega arith)

pub length_decimal : (n : ℕ) → length (decimal n) ≡ places n
unfolding decimal
length_decimal n = length_digits (places n) n

pub decimal_digits : (n count : ℕ) (out : List ℕ) → count ≡ places n
    → digits count n ++ drop count out ≡ decimal n ++ drop (length (decimal n)) out
unfolding decimal
decimal_digits n count out e = rw (e, length_digits (places n) n)

-- one more digit is put down, in front of those that stand
pub digits_more : (i rest : ℕ) (out : List ℕ) → 0 < i → i ≤ length out
    → digits (i - 1) (rest / 10) ++ drop (i - 1) (set out (i - 1) (48 + rest % 10)) ≡ digits i rest ++ drop i out
unfolding digits
digits_more zero rest out p h = absurd (omega arith)
digits_more (suc i) rest out p h =
    let d = 48 + rest % 10 in
    let e : suc i - 1 ≡ i = omega arith in
    let l : i < length (set out i d) = simp length-set h in
    rw (e, drop-cons (set out i d) i 0, get_or-set_same out i d 0, drop-set-lt (suc i) out i d (omega arith))
    (sym (append_snoc (digits i (rest / 10)) d (drop (suc i) out)))

pub digits_none : (i rest : ℕ) (out : List ℕ) → i ≤ 0 → out ≡ digits i rest ++ drop i out
unfolding digits
digits_none zero rest out h = refl
digits_none (suc i) rest out h = absurd (omega arith)
