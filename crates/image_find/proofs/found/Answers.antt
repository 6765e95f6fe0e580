use Rattle.std.proofs.Common.{◌≡◌, ◌+◌, ◌*◌, true, get_or, arith, ◌∙◌}
use Rattle.tables.specs.Names.{is_program, free}
use Rattle.tables.specs.Lookup.{has_number}
use Rattle.image_read.specs.Places.{tickets_in}
use Rattle.image_find.proofs.Steps.{ticket_hit, ticket_missed}
use Rattle.image_find.proofs.found.Goals as goal

pub returns-then-has_number-clause-there : goal.returns-then-has_number-clause-there
returns-then-has_number-clause-there c =
    let a = c.args in
    let p : is_program a.n.pad a.n.program ≡ true = cc in
    let y : has_number a.n.number (get_or (tickets_in a.image.now) (64 * c.from.result + 8 * c.from-2.result + c.loop-i.i) free) ≡ true = cc in
    let hit = ticket_hit a.image.now a.n p _ (omega arith) c.loop-i.i c.loop-i.invariant (omega arith) y in
    (hit.0, c.ticket_at-k.ensures ∙ hit.1)

pub returns-clause-nowhere : goal.returns-clause-nowhere
returns-clause-nowhere c =
    let a = c.args in
    let p : is_program a.n.pad a.n.program ≡ true = cc in
    ticket_missed a.image.now a.n p _ (omega arith) c.loop-i.i c.loop-i.invariant (omega arith)
