-- The field in front is what stands before the first space.
use Rattle.text.proofs.ReadingLaws.{part_long}
use Rattle.text.proofs.value.Goals as goal

pub slice_bounds-field_number-end : goal.slice_bounds-field_number-end
slice_bounds-field_number-end c = part_long 32 c.args.rest.now c.find-end.result c.find-end.ensures
