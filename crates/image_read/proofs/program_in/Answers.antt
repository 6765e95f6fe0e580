use Prim.Native.Nat.{◌*◌}
use native.Mathlib.Omega.{arith}
use lib.ListN.{drop}
use Rattle.lists.proofs.PartLaws.{tabulated}
use Rattle.tables.specs.Names.{free}
use Rattle.image.specs.Layout.{ticket_size}
use Rattle.image.specs.Image.{read_ticket, read_program}
use Rattle.image_read.proofs.program_in.Goals as goal

pub returns : goal.returns
unfolding read_program
returns c =
    let l = c.args.bytes.now in
    λ i. record {
      tickets = tabulated free 8 c.loop-i.i (λ j. read_ticket (drop (ticket_size * j) l)) c.loop-i.k-items (omega arith) c.loop-i.invariant i;
      last = c.number_at.ensures i;
    }
