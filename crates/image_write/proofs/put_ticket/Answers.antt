-- The ticket's 24 bytes come back as the ticket's.
use Prim.Native.Nat.{◌+◌, ◌-◌}
use native.Mathlib.Omega.{arith}
use Rattle.image.specs.Layout.{ticket_size}
use Rattle.image.specs.Image.{ticket_start}
use Rattle.image_write.proofs.Put.{shows_ticket}
use Rattle.image_write.proofs.put_ticket.Goals as goal

pub returns : goal.returns
returns c =
    let a = c.args in
    let at = ticket_start a.place in
    shows_ticket a.place a.k c.requires.1 a.image.now _ c.requires.0 c.put_ticket.ensures (at + ticket_size - at) (omega arith)
