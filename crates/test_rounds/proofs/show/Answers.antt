-- What was written lies within the line.
use Rattle.std.proofs.Common.{◌≤◌, length, arith, sym}
use Rattle.std.proofs.lemmas.List.{length-take-le}
use Rattle.text.proofs.WritingLaws.{written_within}
use Rattle.test_rounds.proofs.show.Goals as goal

pub slice_bounds-line-end : goal.slice_bounds-line-end
slice_bounds-line-end g c =
    omega (arith, written_within _ _ _ _ c.put_values-n.ensures, c.put_values-n.auto.out)

pub slice_bounds-write_all-end : goal.slice_bounds-write_all-end
slice_bounds-write_all-end g c =
    let w = c.put_values-n in
    let within : w.result ≤ length w.new.out = omega (arith, written_within _ _ _ _ w.ensures, w.auto.out) in
    sym (length-take-le w.result w.new.out within)
