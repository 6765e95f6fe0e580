-- After i turns the bytes of the first i numbers are written, the rest is as it was.
use Prim.Native.Nat.{◌*◌}
use mathlib.Core.Path.{◌≡◌}
use Rattle.lists.proofs.Front.{front}
use Rattle.image.specs.Numbers.{bytes_of}
use Rattle.image_records.proofs.put_numbers.Given as goal

abbrev pub invariant-loop-i : goal.invariant-loop-i
invariant-loop-i l = l.bytes ≡ front (2 * l.i) (bytes_of l.numbers) l.initial.bytes
