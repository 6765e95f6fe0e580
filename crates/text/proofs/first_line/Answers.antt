-- A text that is not empty begins with a line, which ends at the first byte 10 or with the text.
use mathlib.Core.Path.{sym, ◌∙◌}
use Rattle.text.proofs.ReadingLaws.{part_long}
use Rattle.text.proofs.NamesLaws.{no_first, first_is}
use Rattle.text.proofs.first_line.Goals.{else-not-is_empty-via-then-not-is_empty+else-same, else-not-is_empty-via-else-not-is_empty}
use Rattle.text.proofs.first_line.Goals as goal

pub slice_bounds-same-end : goal.slice_bounds-same-end
slice_bounds-same-end c = part_long 10 c.args.text.now c.find-end.result c.find-end.ensures

pub returns-then-same : goal.returns-then-same
returns-then-same c =
    sym (first_is c.args.names.now c.args.text.now _ c.find-end.ensures (sym c.is_empty.ensures ∙ c.if-not-is_empty.true) ∙ rw (← c.same.ensures, c.if-same.true))

pub returns-else-not-is_empty : goal.returns-else-not-is_empty
returns-else-not-is_empty c =
    let names = c.args.names.now in
    let text = c.args.text.now in
    elim c.else-not-is_empty.branch [
      | else-not-is_empty-via-then-not-is_empty+else-same w ↦
          sym (first_is names text _ c.find-end.ensures (sym c.is_empty.ensures ∙ w.if-not-is_empty.true) ∙ rw (← w.same.ensures, w.if-same.false))
      | else-not-is_empty-via-else-not-is_empty w ↦ no_first names text _ c.find-end.ensures (sym c.is_empty.ensures ∙ w.if-not-is_empty.false)
    ]
