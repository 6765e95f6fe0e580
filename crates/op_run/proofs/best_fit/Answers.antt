-- Where the search stands is `Sought`; behind the last sheet at which an entry begins, nothing is left to see.
use Prim.Native.Nat.{ℕ, ◌≤◌, ◌<◌, max}
use native.Mathlib.Omega.{arith}
use lib.ListN.{length-take, get_or}
use lib.Seq.{get_or-take}
use mathlib.Core.List.{List}
use mathlib.Core.Path.{refl, sym, ap, ◌∙◌}
use Rattle.image_read.specs.Places.{entries_in}
use Rattle.op_run.proofs.Runs.{bound_low, none_behind_bound}
use Rattle.op_run.proofs.BestFit.{sought_none, sought_on, sought_more, sought_end}
use Rattle.op_run.proofs.best_fit.Goals as goal
use Rattle.op_run.proofs.best_fit.Goals.{then-end-ne0, else-end-ne0}

pub slice_bounds-ends-end : goal.slice_bounds-ends-end
slice_bounds-ends-end c = omega (arith, bound_low (entries_in c.args.image.now) c.note_ends-bound.ensures)

pub slice_bounds-end-items-end : goal.slice_bounds-end-items-end
slice_bounds-end-items-end c = simp length-take (omega (arith, bound_low (entries_in c.args.image.now) c.note_ends-bound.ensures))

pub loop-s-init : goal.loop-s-init
loop-s-init c = λ ends e. sought_none

pub loop-s-preserved : goal.loop-s-preserved
loop-s-preserved c = λ ends e.
    let s = c.loop-s.s in
    let bound = c.note_ends-bound.result in
    let so_far = c.loop-s.invariant ends e in
    let most : bound ≤ 256 = bound_low (entries_in c.args.image.now) c.note_ends-bound.ensures in
    let low : s < bound = omega (arith, simp length-take at c.loop-s-test.true) in
    let here = ap (λ (l : List ℕ). get_or l s 0) e ∙ get_or-take bound ends s 0 low in
    elim c.if-end-ne0.branch [
      | then-end-ne0 w ↦
          rw (w.found-is, w.start-is)
          (sought_more so_far c.requires.0 (omega arith) (λ none. w.if-end-ne0.true (here ∙ none)) w.better-found.ensures
          (w.max-start.ensures ∙ ap (max c.loop-s.start) here))
      | else-end-ne0 w ↦ rw (w.found-is, w.start-is) (sought_on so_far (omega arith) (sym here ∙ w.if-end-ne0.false))
    ]

pub returns : goal.returns
returns c =
    let es = entries_in c.args.image.now in
    let noted = c.note_ends-bound.ensures in
    let most = bound_low es noted in
    let all = simp length-take at c.loop-s-test.false in
    sought_end (c.loop-s.invariant c.note_ends-bound.new.ends refl)
    (omega (arith, simp length-take at c.loop-s.auto.s-end))
    (λ k b. none_behind_bound es noted k (omega (arith, all, most))) c.requires.0 c.better-best.ensures es noted.ends
