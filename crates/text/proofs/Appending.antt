-- Laws of appending: nothing, two texts one behind the other, a text written into the lent rest of an output; and a text that is measured
-- and then written, or refused.
use Prim.Native.Nat.{ℕ, ◌+◌, ◌-◌, ◌≤◌, ◌<◌, min}
use native.Mathlib.Omega.{arith}
use mathlib.Core.Path.{◌≡◌, refl, sym, ap, subst, ◌∙◌}
use mathlib.Core.Bool.{true, false}
use mathlib.Core.List.{List, [], ◌++◌, append_assoc, append-nil}
use lib.Dec.{leb}
use lib.ListN.{length, take, drop, length-append, length-drop, take-append-drop}
use lib.Seq.{length-take-le, drop-length, take_at, drop_at, drop-drop}
use borrow.Author.Tests.{leb-true, leb-false}
use borrow.Rule.Slice.PartMut.{put_mid, same_len_mid, Post-is}
use Rattle.lists.proofs.Tests.{Case, pass, fail, case}
use Rattle.lists.proofs.Front.{rest_part}
use Rattle.text.specs.Writing.{Writes}
use Rattle.text.specs.Appending.{Appends, highest_count, counted}
use Rattle.text.proofs.WritingLaws.{writes_none, writes_all, writes_fits}

-- the same text in other words
pub append_as : (x y before after : List ℕ) (at r : ℕ) → x ≡ y → Appends x before after at r → Appends y before after at r
append_as x y before after at r e a = subst (λ (l : List ℕ). Appends l before after at r) e a

pub append_none : (out : List ℕ) (at : ℕ) → Appends [] out out at at
append_none out at =
    let e : at ≡ at + 0 = omega arith in
    record {
      total = e;
      kept = refl;
      output = λ _.
          sym (ap (λ (n : ℕ). take at out ++ [] ++ drop n out) (sym e) ∙ ap (λ (l : List ℕ). l ++ drop at out) (append-nil (take at out))
          ∙ take-append-drop at out);
    }

module _ (x y before middle after : List ℕ) (at k r : ℕ) (first : Appends x before middle at k) (second : Appends y middle after k r) where
  both_long : length (x ++ y) ≡ length x + length y
  both_long = length-append x y

  module _ (fits : at + length (x ++ y) ≤ length before) where
    front_long : length (take at before ++ x) ≡ k
    front_long = length-append (take at before) x ∙ omega (arith, length-take-le at before (omega (arith, both_long)), first.total)

    middle_is : middle ≡ take at before ++ x ++ drop (at + length x) before
    middle_is = first.output (omega (arith, both_long))

    rest_is : drop (k + length y) middle ≡ drop (at + length (x ++ y)) before
    rest_is =
        let e : at + length x + length y ≡ at + length (x ++ y) = omega (arith, both_long) in
        sym (drop-drop (length y) k middle)
        ∙ ap (λ (l : List ℕ). drop (length y) (drop k l)) middle_is
        ∙ ap (λ (l : List ℕ). drop (length y) l) (drop_at (take at before ++ x) (drop (at + length x) before) k front_long)
        ∙ drop-drop (length y) (at + length x) before
        ∙ ap (λ (n : ℕ). drop n before) e

    output : after ≡ take at before ++ (x ++ y) ++ drop (at + length (x ++ y)) before
    output =
        second.output (omega (arith, both_long, first.total, first.kept))
        ∙ (λ i. take k (middle_is i) ++ y ++ rest_is i)
        ∙ ap (λ (l : List ℕ). l ++ y ++ drop (at + length (x ++ y)) before)
        (take_at (take at before ++ x) (drop (at + length x) before) k front_long)
        ∙ ap (λ (l : List ℕ). l ++ drop (at + length (x ++ y)) before) (append_assoc (take at before) x y)

  pub append_both : Appends (x ++ y) before after at r
  append_both = record {
    total = omega (arith, first.total, second.total, both_long);
    kept = second.kept ∙ first.kept;
    output = output;
  }

-- ---- into the rest of an output, lent from `at` on
pub room_behind : (out : List ℕ) (at n : ℕ) → at + n ≤ length out → n ≤ length (take (length out - at) (drop at out))
room_behind out at n fits = rw (rest_part out at, length-drop at out) (omega arith)

module _ (text out back : List ℕ) (at : ℕ) where
  put_rest : at + length text ≤ length out → back ≡ text ++ drop (length text) (take (length out - at) (drop at out))
      → put_mid at (length out - at) out back ≡ take at out ++ text ++ drop (at + length text) out
  put_rest fits laid =
      let lent : take (length out - at) (drop at out) ≡ drop at out = rest_part out at in
      let back_is : back ≡ text ++ drop (at + length text) out
      = laid ∙ ap (λ (l : List ℕ). text ++ drop (length text) l) lent ∙ ap (λ (l : List ℕ). text ++ l) (drop-drop (length text) at out) in
      ap (λ (l : List ℕ). take at out ++ (back ++ l)) (Post-is at (length out) out (omega arith) ∙ drop-length out)
      ∙ ap (λ (l : List ℕ). take at out ++ l) (append-nil back ∙ back_is)
      ∙ sym (append_assoc (take at out) text (drop (at + length text) out))

  pub append_rest : at + length text ≤ length out → back ≡ text ++ drop (length text) (take (length out - at) (drop at out))
      → length back ≡ length (take (length out - at) (drop at out))
      → Appends text out (put_mid at (length out - at) out back) at (at + length text)
  append_rest fits laid long = record { total = refl; kept = same_len_mid at (length out - at) out back long; output = λ _. put_rest fits laid }

  pub append_written : (answer : ℕ) → at + length text ≤ length out → Writes text (take (length out - at) (drop at out)) back answer
      → length back ≡ length (take (length out - at) (drop at out))
      → Appends text out (put_mid at (length out - at) out back) at (at + length text)
  append_written answer fits w long =
      let room = room_behind out at (length text) fits in
      append_rest fits (writes_fits text (take (length out - at) (drop at out)) back answer room w).0 long

pub append_beyond : (text out : List ℕ) (at : ℕ) → length out < at + length text → Appends text out out at (at + length text)
append_beyond text out at h = record { total = refl; kept = refl; output = λ fits. absurd (omega arith) }

-- ---- to the front of an output, as one text
module _ (text before after : List ℕ) (total : ℕ) (a : Appends text before after 0 total) where
  -- an output of any length tells how long the text is
  pub measured : total ≡ length text
  measured = omega (arith, a.total)

  pub appended_writes : length text ≤ length before → Writes text before after total
  appended_writes fits =
      let z : 0 + length text ≡ length text = omega arith in
      writes_all text before after total fits (a.output (omega arith) ∙ ap (λ (n : ℕ). text ++ drop n before) z) measured

-- by a test that was made beforehand, of the length against the output's: written, or refused
module _ (text before : List ℕ) where
  pub write_tested : (after : List ℕ) (total : ℕ) → leb (length text) (length before) ≡ true → Appends text before after 0 total
      → Writes text before after total
  write_tested after total e a = appended_writes text before after total a (leb-true (length text) (length before) e)

  pub refuse_tested : leb (length text) (length before) ≡ false → Writes text before before 0
  refuse_tested e = writes_none text before (leb-false (length text) (length before) e)

-- ---- counted lengths
pub counted_min : (n : ℕ) → counted n ≡ min n highest_count
unfolding counted
counted_min n = go (case (leb n highest_count))
  where
    go : Case (leb n highest_count) → counted n ≡ min n highest_count
    go (pass e) = rw e (omega (arith, leb-true n highest_count e))
    go (fail e) = rw e (omega (arith, leb-false n highest_count e))
