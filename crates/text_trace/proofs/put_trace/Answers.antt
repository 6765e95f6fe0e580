-- The names go to the front; behind them goes one line for an input that is refused, or the answers to the lines behind its names.
use Prim.Native.Nat.{◌≤◌}
use native.Mathlib.Omega.{arith}
use borrow.Author.Rules.{rules}
use mathlib.Core.Path.{sym}
use lib.ListN.{length}
use Rattle.lending.specs.Trace.{dock_of}
use Rattle.text.specs.Bytes.{bytes}
use Rattle.text.proofs.Appending.{append_as}
use Rattle.trace_texts.specs.Trace.{longest_input, input_names, output_names}
use Rattle.text_trace.proofs.LineServed.{same_dock}
use Rattle.text_trace.proofs.WholeTrace.{too_long, other_names, is_ok, end_inside, names_end, refused_fits, refused_trace, served_trace}
use Rattle.text_trace.proofs.WholeTrace.{served_answers, served_fits, served_leaves, refused_leaves}
use Rattle.text_trace.proofs.put_trace.Goals as goal

pub append_other-requires : goal.append_other-requires
unfolding output_names bytes
append_other-requires c = refused_fits _ _ _ c.append-at.ensures

pub returns-then-input-gt-LONGEST : goal.returns-then-input-gt-LONGEST
unfolding output_names bytes
returns-then-input-gt-LONGEST c =
    let a = c.args in
    let input = a.input.now in
    let here = dock_of a.tables.now a.store.now in
    let bad = too_long input c.if-input-gt-LONGEST.true in
    let same = same_dock _ _ (search rules) c.requires in
    record { appends = refused_trace _ _ _ c.append-at.ensures here input _ _ bad c.append_other.ensures; leaves_dock = refused_leaves here input bad same }

pub append_other-requires-in_default : goal.append_other-requires-in_default
unfolding output_names bytes
append_other-requires-in_default c = refused_fits _ _ _ c.append-at.ensures

pub returns-in_default : goal.returns-in_default
unfolding output_names input_names bytes
returns-in_default c =
    let a = c.args in
    let input = a.input.now in
    let here = dock_of a.tables.now a.store.now in
    let bad = other_names input _ c.in_default.ensures in
    let same = same_dock _ _ (search rules) c.requires in
    record { appends = refused_trace _ _ _ c.append-at.ensures here input _ _ bad c.append_other-in_default.ensures; leaves_dock = refused_leaves here input bad same }

pub overflow_add-end : goal.overflow_add-end
unfolding input_names bytes
overflow_add-end c =
    let input = c.args.input.now in
    omega (arith, end_inside input _ c.in-Ok.ensures)

pub serve_lines-requires : goal.serve_lines-requires
unfolding output_names input_names bytes
serve_lines-requires c =
    let a = c.args in
    let input = a.input.now in
    let names = names_end _ _ _ c.append-at.ensures in
    let short : length input ≤ longest_input = omega (arith, c.if-input-gt-LONGEST.false) in
    let told = c.in-Ok.ensures in
    let ok = is_ok input _ told short in (
      c.requires,
      (
        record { short = short; first = omega arith; inside = omega (arith, end_inside input _ told) },
        served_fits (dock_of a.tables.now a.store.now) input _ told _ names ok,
      ),
    )

pub returns : goal.returns
unfolding output_names input_names bytes
returns c =
    let names = c.append-at.ensures in
    let a = c.args in
    let input = a.input.now in
    let here = dock_of a.tables.now a.store.now in
    let short : length input ≤ longest_input = omega (arith, c.if-input-gt-LONGEST.false) in
    let told = c.in-Ok.ensures in
    let ok = is_ok input _ told short in
    let lines = c.serve_lines.ensures in
    record {
      appends = served_trace _ _ _ names here input _ _ ok (append_as _ _ _ _ _ _ (sym (served_answers here input _ told)) lines.appends);
      leaves_dock = served_leaves here input _ told ok lines.leaves_dock;
    }
