-- The first i places have been stored.
use Prim.Native.Nat.{◌/◌}
use Rattle.lists.proofs.Laid.{Laid}
use Rattle.image.specs.Image.{decode}
use Rattle.image_pads.specs.Places.{on_pad, up_of}
use Rattle.image_pads.proofs.write_ups.Given as goal

abbrev pub invariant-loop-i : goal.invariant-loop-i
invariant-loop-i l = Laid 0 64 (λ j. up_of l.numbers (j / 8) (on_pad (decode l.image) l.pad j)) l.i l.to
