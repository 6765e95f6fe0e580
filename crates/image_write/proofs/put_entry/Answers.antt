-- The entry's 20 bytes come back as the entry's.
use Prim.Native.Nat.{◌+◌, ◌-◌}
use native.Mathlib.Omega.{arith}
use Rattle.image.specs.Layout.{entry_size}
use Rattle.image.specs.Image.{entry_start}
use Rattle.image_write.proofs.Put.{shows_entry}
use Rattle.image_write.proofs.put_entry.Goals as goal

pub returns : goal.returns
returns c =
    let a = c.args in
    let at = entry_start a.place in
    shows_entry a.place a.e c.requires.1 a.image.now _ c.requires.0 c.put_entry.ensures (at + entry_size - at) (omega arith)
