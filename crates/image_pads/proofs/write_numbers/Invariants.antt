-- The first i numbers have been stored.
use Rattle.lists.proofs.Laid.{Laid}
use Rattle.image.specs.Image.{decode}
use Rattle.image_places.specs.Places.{number_of}
use Rattle.image_pads.specs.Places.{on_pad}
use Rattle.image_pads.proofs.write_numbers.Given as goal

abbrev pub invariant-loop-i : goal.invariant-loop-i
invariant-loop-i l = Laid 0 64 (λ j. number_of (on_pad (decode l.image) l.pad j)) l.i l.to
