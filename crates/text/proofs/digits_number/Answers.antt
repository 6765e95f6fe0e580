-- After some bytes n is the number that they make, all of them digits: the rest decides, from n on.
use Prim.Native.Nat.{ℕ, ◌+◌, ◌*◌}
use native.Mathlib.Omega.{arith}
use mathlib.Core.Path.{sym, ap, ◌∙◌}
use lib.ListN.{get_or, drop}
use Rattle.lists.proofs.Loops.{all_pass, all_fail, all_end_lem}
use Rattle.text.specs.Reading.{is_digit, number_from}
use Rattle.text.proofs.NumberLaws.{digit_is, number_from_lem, number_end, no_digit, too_large, in_range}
use Rattle.text.proofs.digits_number.Goals as goal

pub returns-then-not-is_ascii_digit : goal.returns-then-not-is_ascii_digit
returns-then-not-is_ascii_digit c =
    let field = c.args.field.now in
    let l = c.loop-b in
    let other = sym (digit_is (get_or field l.b-index 0)) ∙ sym c.is_ascii_digit.ensures.value ∙ c.if-not-is_ascii_digit.true in
    no_digit field (all_fail is_digit field 0 l.b-index (omega arith) other l.invariant.1.0)

pub returns-then-n-gt65535 : goal.returns-then-n-gt65535
returns-then-n-gt65535 c =
    let field = c.args.field.now in
    let l = c.loop-b in
    let rest = drop (l.b-index + 1) field in
    too_large field _ rest c.if-n-gt65535.true
    (l.invariant.1.1 ∙ number_from_lem field l.n l.b-index (omega arith)
    ∙ ap (λ (d : ℕ). number_from (l.n * 10 + d) rest) (sym c.from.ensures))

pub loop-b-preserved : goal.loop-b-preserved
loop-b-preserved c =
    let field = c.args.field.now in
    let l = c.loop-b in
    let digit = sym (digit_is (get_or field l.b-index 0)) ∙ sym c.is_ascii_digit.ensures.value ∙ c.if-not-is_ascii_digit.false in
    let rest = drop (l.b-index + 1) field in (
      omega arith,
      (
        all_pass is_digit field 0 l.b-index (omega arith) digit l.invariant.1.0,
        l.invariant.1.1 ∙ number_from_lem field l.n l.b-index (omega arith)
            ∙ ap (λ (d : ℕ). number_from (l.n * 10 + d) rest) (sym c.from.ensures),
      ),
    )

pub returns : goal.returns
returns c =
    let field = c.args.field.now in
    let l = c.loop-b in
    in_range field l.n (all_end_lem is_digit field l.b-index (omega arith) l.invariant.1.0)
    (l.invariant.1.1 ∙ number_end field l.n l.b-index (omega arith)) (omega arith)
