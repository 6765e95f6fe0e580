-- Laws of a line of values: its length, and an output into which it is written value by value.
use Prim.Native.Nat.{ℕ, suc, ◌+◌, ◌-◌, ◌≤◌, ◌<◌, min}
use native.Mathlib.Numerals.{add-one}
use native.Mathlib.Omega.{arith}
use mathlib.Core.Path.{◌≡◌, refl, sym, ap, ◌∙◌}
use mathlib.Core.Bool.{cond}
use mathlib.Core.List.{List, [], ◌∷◌, ◌++◌, append_assoc, append-nil}
use lib.Dec.{eqb}
use lib.ListN.{length, get_or, set, take, drop, length-append, length-drop, length-set, take-append-drop, drop_of_length-le}
use lib.Seq.{drop-cons, drop-length, append_snoc, take-length, take_at, drop_at, set_at, drop-drop, length-take-le}
use borrow.Author.Tests.{ne_eqb}
use borrow.Rule.Slice.PartMut.{put_mid}
use Rattle.text.specs.Writing.{places, decimal, behind, values_line, Writes}
use Rattle.text.specs.Appending.{highest_count, counted}
use Rattle.text.proofs.WritingLaws.{writes_fits, length_decimal}
use Rattle.text.proofs.Appending.{counted_min}

pub line_none : values_line [] ≡ []
unfolding values_line
line_none = refl

pub length_line : (v : ℕ) (vs : List ℕ) → length (values_line (v ∷ vs)) ≡ places v + 1 + length (values_line vs)
unfolding values_line
length_line v vs = simp (length-append, length_decimal) (omega arith)

-- the line of the values from place i on
length_line_from : (values : List ℕ) (i : ℕ) → i < length values
    → length (values_line (drop i values)) ≡ places (get_or values i 0) + 1 + length (values_line (drop (i + 1) values))
length_line_from values i h = rw (add-one i, drop-cons values i 0) (length_line (get_or values i 0) (drop (suc i) values))

line_end_lem : (values : List ℕ) (i : ℕ) → length values ≤ i → values_line (drop i values) ≡ []
unfolding values_line
line_end_lem values i h = ap values_line (drop_of_length-le values h)

behind_test : (values : List ℕ) → cond (eqb (length values) 0) 10 32 ≡ behind values
unfolding behind
behind_test [] = refl
behind_test (v ∷ vs) = rw (ne_eqb (suc (length vs)) 0 (λ e. omega arith))

-- ---- the line's length, counted value by value up to the highest: `total` for the values in front of place i
module _ (values : List ℕ) (i total : ℕ) (so_far : counted (length (values_line values)) ≡ counted (total + length (values_line (drop i values)))) where
  pub count_more : (more : ℕ) → i < length values → more ≡ min (total + (places (get_or values i 0) + 1)) highest_count
      → counted (length (values_line values)) ≡ counted (more + length (values_line (drop (i + 1) values)))
  count_more more h e =
      omega (
        arith,
        so_far,
        e,
        length_line_from values i h,
        counted_min (total + length (values_line (drop i values))),
        counted_min (more + length (values_line (drop (i + 1) values))),
      )

  pub count_end : length values ≤ i → total ≤ highest_count → total ≡ counted (length (values_line values))
  count_end h low =
      omega (arith, so_far, ap length (line_end_lem values i h), counted_min (total + length (values_line (drop i values))))

-- ---- a value d and a byte s behind it, written over q behind p
module _ (p q : List ℕ) (at : ℕ) (e : length p ≡ at) where
  lent : take (length (p ++ q) - at) (drop at (p ++ q)) ≡ q
  lent =
      let n : length (p ++ q) - at ≡ length q = omega (arith, length-append p q) in
      rw (n, drop_at p q at, take-length q)

  came_back : (back : List ℕ) → put_mid at (length (p ++ q) - at) (p ++ q) back ≡ p ++ back
  came_back back =
      let n : length (p ++ q) - at ≡ length q = omega (arith, length-append p q) in
      rw (n, drop_at p q at, take_at p q at, drop-length q) (ap (λ (l : List ℕ). p ++ l) (append-nil back))

  stored : (d : List ℕ) (s : ℕ) → length d < length q
      → set (p ++ (d ++ drop (length d) q)) (at + length d) s ≡ p ++ d ++ s ∷ [] ++ drop (suc (length d)) q
  stored d s h =
      let n : length (p ++ d) ≡ at + length d = omega (arith, length-append p d) in
      rw (drop-cons q (length d) 0, ← append_assoc p d (get_or q (length d) 0 ∷ drop (suc (length d)) q))
      (set_at (p ++ d) (get_or q (length d) 0) (drop (suc (length d)) q) s (at + length d) n
      ∙ sym (append_snoc (p ++ d) s (drop (suc (length d)) q)))

-- ---- an output with the first `at` bytes of a line, those of the first i values
pub record Laid (values before out : List ℕ) (at i : ℕ) : Type 0 where
  pub turns : i ≤ length values
  pub room : length (values_line values) ≤ length before
  pub low : at ≤ length (values_line values)
  pub long : length out ≡ length before
  pub output : out ≡ take at (values_line values) ++ drop at before
  pub rest : drop at (values_line values) ≡ values_line (drop i values)

pub laid_end : (values before out : List ℕ) (at i : ℕ) → Laid values before out at i → length values ≤ i
    → out ≡ values_line values ++ drop (length (values_line values)) before
laid_end values before out at i l h =
    let line = values_line values in
    let z : length (drop at line) ≡ 0 = ap length (l.rest ∙ line_end_lem values i h) in
    let e : at ≡ length line = omega (arith, z, length-drop at line, l.low) in
    rw e at l.output ∙ ap (λ (t : List ℕ). t ++ drop (length line) before) (take-length line)

-- one value more
module _ (values before out : List ℕ) (at i : ℕ) (l : Laid values before out at i) (h : i < length values) (back : List ℕ) (count : ℕ)
    (w : Writes (decimal (get_or values i 0)) (take (length out - at) (drop at out)) back count) where
  rest_is : drop at (values_line values) ≡ decimal (get_or values i 0) ++ behind (drop (i + 1) values) ∷ values_line (drop (i + 1) values)
  unfolding values_line
  rest_is = l.rest ∙ rw (add-one i, drop-cons values i 0)

  long_is : at + length (decimal (get_or values i 0)) + 1 + length (values_line (drop (i + 1) values)) ≡ length (values_line values)
  long_is =
      let e = length-drop at (values_line values) in
      let f = simp length-append at (ap length rest_is) in
      omega (arith, e, f, l.low)

  output_is : (take (length out - at) (drop at out) ≡ drop at before) × (length (decimal (get_or values i 0)) < length (drop at before))
  output_is =
      let p = take at (values_line values) in
      let e : length p ≡ at = length-take-le at (values_line values) l.low in
      (rw l.output (lent p (drop at before) at e), rw (length-drop at before) (omega (arith, long_is, l.room)))

  fresh : (back ≡ decimal (get_or values i 0) ++ drop (length (decimal (get_or values i 0))) (drop at before))
      × (count ≡ length (decimal (get_or values i 0)))
  fresh =
      let d = decimal (get_or values i 0) in
      let v : Writes d (drop at before) back count = rw output_is.0 at w in
      writes_fits d (drop at before) back count (omega (arith, output_is.1)) v

  pub laid_room : at + count + 1 ≤ length (values_line values)
  laid_room = omega (arith, long_is, fresh.1)

  pub laid_more : (s : ℕ) → s ≡ cond (eqb (length values - (i + 1)) 0) 10 32
      → Laid values before (set (put_mid at (length out - at) out back) (at + count) s) (at + count + 1) (i + 1)
  laid_more s e =
      let line = values_line values in
      let p = take at line in
      let q = drop at before in
      let d = decimal (get_or values i 0) in
      let later = values_line (drop (i + 1) values) in
      let b : s ≡ behind (drop (i + 1) values) = e ∙ rw (← length-drop (i + 1) values) (behind_test (drop (i + 1) values)) in
      let pl : length p ≡ at = length-take-le at line l.low in
      let n : length (p ++ d ++ s ∷ []) ≡ at + count + 1 = simp length-append (omega (arith, pl, fresh.1)) in
      let whole : line ≡ p ++ d ++ s ∷ [] ++ later
      = sym (take-append-drop at line) ∙ ap (λ (t : List ℕ). p ++ t) (rest_is ∙ ap (λ (x : ℕ). d ++ x ∷ later) (sym b))
      ∙ sym (append_assoc p d (s ∷ later)) ∙ sym (append_snoc (p ++ d) s later) in
      let put : put_mid at (length out - at) out back ≡ p ++ (d ++ drop (length d) q)
      = rw (l.output, fresh.0) (came_back p q at pl (d ++ drop (length d) q)) in
      let front : take (at + count + 1) line ≡ p ++ d ++ s ∷ []
      = ap (take (at + count + 1)) whole ∙ take_at (p ++ d ++ s ∷ []) later (at + count + 1) n in
      let m : at + suc (length d) ≡ at + count + 1 = omega (arith, fresh.1) in
      let tail : drop (suc (length d)) q ≡ drop (at + count + 1) before
      = drop-drop (suc (length d)) at before ∙ ap (λ (k : ℕ). drop k before) m in
      record {
        turns = omega arith;
        room = l.room;
        low = laid_room;
        long = rw put (simp (length-set, length-append, length-drop) (omega (arith, pl, long_is, l.room)));
        output = rw (put, front, ← tail, fresh.1) (stored p q at pl d s output_is.1);
        rest = rw whole (drop_at (p ++ d ++ s ∷ []) later (at + count + 1) n);
      }
