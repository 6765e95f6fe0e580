-- The two bytes come back as the number's.
use Prim.Native.Nat.{◌+◌, ◌-◌}
use native.Mathlib.Omega.{arith}
use Rattle.image_read.specs.Places.{last_start}
use Rattle.image_write.proofs.Put.{shows_last}
use Rattle.image_write.proofs.put_last.Goals as goal

pub returns : goal.returns
returns c =
    let a = c.args in
    let at = last_start a.program in
    shows_last a.program a.last c.requires.1 a.image.now _ c.requires.0 c.put_numbers.ensures (at + 2 - at) (omega arith)
