-- After i turns the first i places hold the tickets that the bytes say.
use Prim.Native.Nat.{◌*◌}
use lib.ListN.{drop}
use Rattle.lists.proofs.Laid.{Laid}
use Rattle.tables.specs.Names.{free}
use Rattle.image.specs.Layout.{ticket_size}
use Rattle.image.specs.Image.{read_ticket}
use Rattle.image_read.proofs.program_in.Given as goal

abbrev pub invariant-loop-i : goal.invariant-loop-i
invariant-loop-i l = Laid free 8 (λ j. read_ticket (drop (ticket_size * j) l.bytes)) l.i l.k-items
