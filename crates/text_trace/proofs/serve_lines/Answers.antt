-- Before each line `Going` holds.
use Prim.Native.Nat.{◌≤◌}
use native.Mathlib.Omega.{arith}
use borrow.Author.Rules.{rules}
use lib.ListN.{length}
use Rattle.text_trace.proofs.TraceSteps.{begins, ends, end_holds, line_inside, line_bound, next}
use Rattle.text_trace.proofs.serve_lines.Goals as goal

pub loop-from-init : goal.loop-from-init
loop-from-init c =
    let a = c.args in
    let p = c.requires in
    begins a.tables.now a.store.now a.input.now a.start a.out.now a.at (search rules) p.0 p.1.0
    p.1.1

pub overflow_add-end : goal.overflow_add-end
overflow_add-end c =
    omega (arith, line_inside _ _ _ _ _ _ _ _ _ _ _ c.loop-from.invariant _ c.find.ensures c.loop-from-test.true)

pub overflow_add-number : goal.overflow_add-number
overflow_add-number c =
    omega (arith, c.loop-from.invariant.counted, c.loop-from-test.true, c.requires.1.0.short)

pub slice_bounds-serve_line-end : goal.slice_bounds-serve_line-end
slice_bounds-serve_line-end c =
    omega (arith, line_inside _ _ _ _ _ _ _ _ _ _ _ c.loop-from.invariant _ c.find.ensures c.loop-from-test.true)

pub serve_line-total-requires : goal.serve_line-total-requires
serve_line-total-requires c =
    (c.loop-from.invariant.ready, line_bound _ _ _ _ _ _ _ _ _ _ _ c.loop-from.invariant _ c.find.ensures c.loop-from-test.true)

pub overflow_add-from : goal.overflow_add-from
overflow_add-from c =
    omega (arith, line_inside _ _ _ _ _ _ _ _ _ _ _ c.loop-from.invariant _ c.find.ensures c.loop-from-test.true, c.requires.1.0.short)

pub loop-from-smaller : goal.loop-from-smaller
loop-from-smaller c =
    omega (arith, line_inside _ _ _ _ _ _ _ _ _ _ _ c.loop-from.invariant _ c.find.ensures c.loop-from-test.true)

pub loop-from-preserved : goal.loop-from-preserved
loop-from-preserved c =
    let line = c.serve_line-total in
    next _ _ _ _ _ _ _ _ _ _ _ c.loop-from.invariant _ c.find.ensures c.loop-from-test.true _ _ _ _ line.ensures.appends line.ensures.leaves_dock (omega arith)

pub returns : goal.returns
returns c =
    let past : length c.args.input.now ≤ c.loop-from.from = omega (arith, c.loop-from-test.false) in
    record { appends = ends _ _ _ _ _ _ _ _ _ _ _ c.loop-from.invariant past; leaves_dock = end_holds _ _ _ _ _ _ _ _ _ _ _ c.loop-from.invariant past }
