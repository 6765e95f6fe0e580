-- Laws of numbers as two bytes each: where a number's bytes stand, what they are read as, and numbers written one after the other.
use Prim.Native.Nat.{ℕ, zero, suc, ◌+◌, ◌*◌, ◌/◌, ◌%◌, ◌≤◌, ◌<◌}
use native.Mathlib.Nat.{add-zero}
use native.Mathlib.Omega.{arith}
use mathlib.Core.Path.{◌≡◌, refl, sym, ap, ◌∙◌}
use mathlib.Core.List.{List, [], ◌∷◌}
use lib.ListN.{length, get_or, set, take, drop, length-drop}
use lib.Seq.{get_or-drop}
use Rattle.lists.specs.Parts.{tabulate}
use Rattle.lists.proofs.Front.{front, front_more}
use Rattle.lists.proofs.PartLaws.{Begins}
use Rattle.image.specs.Numbers.{bytes_of, number_at}

twice : (i : ℕ) → 2 * suc i ≡ suc (suc (2 * i))
twice i = omega arith

pub length_bytes : (ns : List ℕ) → length (bytes_of ns) ≡ 2 * length ns
unfolding bytes_of
length_bytes [] = refl
length_bytes (n ∷ ns) = rw (twice (length ns)) (ap (λ (k : ℕ). suc (suc k)) (length_bytes ns))

low_byte : (ns : List ℕ) (i : ℕ) → i < length ns → get_or (bytes_of ns) (2 * i) 0 ≡ get_or ns i 0 % 256
unfolding bytes_of
low_byte [] i h = absurd (omega arith)
low_byte (n ∷ ns) zero h = refl
low_byte (n ∷ ns) (suc i) h = rw (twice i) (low_byte ns i (omega arith))

high_byte : (ns : List ℕ) (i : ℕ) → i < length ns → get_or (bytes_of ns) (suc (2 * i)) 0 ≡ get_or ns i 0 / 256
unfolding bytes_of
high_byte [] i h = absurd (omega arith)
high_byte (n ∷ ns) zero h = refl
high_byte (n ∷ ns) (suc i) h = rw (twice i) (high_byte ns i (omega arith))

-- one number more
pub put_number : (ns before now : List ℕ) (i : ℕ) → i < length ns → now ≡ front (2 * i) (bytes_of ns) before
    → set (set now (2 * i) (get_or ns i 0 % 256)) (2 * i + 1) (get_or ns i 0 / 256) ≡ front (2 * (i + 1)) (bytes_of ns) before
put_number ns before now i h e =
    let low : set now (2 * i) (get_or ns i 0 % 256) ≡ front (2 * i + 1) (bytes_of ns) before =
    (λ j. set (e j) (2 * i) (sym (low_byte ns i h) j)) ∙ front_more (2 * i) (bytes_of ns) before 0 (omega (arith, length_bytes ns)) in
    let one : 2 * i + 1 ≡ suc (2 * i) = omega arith in
    let two : 2 * i + 1 + 1 ≡ 2 * (i + 1) = omega arith in
    let high : get_or ns i 0 / 256 ≡ get_or (bytes_of ns) (2 * i + 1) 0 = rw one (sym (high_byte ns i h)) in
    (λ j. set (low j) (2 * i + 1) (high j)) ∙ front_more (2 * i + 1) (bytes_of ns) before 0 (omega (arith, length_bytes ns))
    ∙ ap (λ (k : ℕ). front k (bytes_of ns) before) two

-- what two bytes of a number are read as
pub number_back : (n : ℕ) → n % 256 + 256 * (n / 256) ≡ n
number_back n = omega arith

-- ---- numbers read from bytes
pub number_begins : (n : ℕ) (ns bytes : List ℕ) → Begins (bytes_of (n ∷ ns)) bytes → number_at 0 bytes ≡ n
unfolding bytes_of
number_begins n ns bytes it = rw it.same (number_back n)

pub number_drop : (at : ℕ) (bytes : List ℕ) → number_at 0 (drop at bytes) ≡ number_at at bytes
number_drop at bytes = (λ i. get_or-drop at bytes 0 0 i + 256 * get_or-drop at bytes 1 0 i) ∙ rw add-zero

-- at least so many elements, all of them bytes
pub record Bytes (size : ℕ) (bytes : List ℕ) : Type 0 where
  pub long : size ≤ length bytes
  pub small : (i : ℕ) → get_or bytes i 0 < 256

pub bytes_drop : {size : ℕ} {bytes : List ℕ} (at w : ℕ) → at + w ≤ size → Bytes size bytes → Bytes w (drop at bytes)
bytes_drop {size} {bytes} at w h b = record {
  long = omega (arith, b.long, length-drop at bytes);
  small = λ i. rw (get_or-drop at bytes i 0) (b.small (at + i));
}

low_of : (a b : ℕ) → a < 256 → (a + 256 * b) % 256 ≡ a
low_of a b h = omega arith

high_of : (a b : ℕ) → a < 256 → (a + 256 * b) / 256 ≡ b
high_of a b h = omega arith

number_on : (x y : ℕ) (rest : List ℕ) (i : ℕ) → number_at (2 * suc i) (x ∷ y ∷ rest) ≡ number_at (2 * i) rest
number_on x y rest i = sym (number_drop (2 * suc i) (x ∷ y ∷ rest)) ∙ rw (twice i) (number_drop (2 * i) rest)

-- the numbers that stand one behind the other, written again
pub numbers_cut : (n : ℕ) (bytes : List ℕ) → Bytes (2 * n) bytes → bytes_of (tabulate n (λ i. number_at (2 * i) bytes)) ≡ take (2 * n) bytes
unfolding bytes_of tabulate
numbers_cut zero bytes b = refl
numbers_cut (suc n) [] b = absurd (omega (arith, b.long))
numbers_cut (suc n) (x ∷ []) b = absurd (omega (arith, b.long))
numbers_cut (suc n) (x ∷ y ∷ rest) b =
    let later : bytes_of (tabulate n (λ i. number_at (2 * suc i) (x ∷ y ∷ rest))) ≡ take (2 * n) rest =
    (λ j. bytes_of (tabulate n (λ i. number_on x y rest i j))) ∙ numbers_cut n rest (bytes_drop 2 (2 * n) (omega arith) b) in
    rw (twice n) (λ j. low_of x y (b.small 0) j ∷ high_of x y (b.small 0) j ∷ later j)
