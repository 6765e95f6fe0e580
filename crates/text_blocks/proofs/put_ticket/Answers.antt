use Prim.Native.Nat.{◌/◌, ◌%◌}
use mathlib.Core.Path.{ap, ◌∙◌}
use Rattle.saved.specs.Save.{ticket_row}
use Rattle.text_blocks.proofs.Lines.{line_room_lem, line_put}
use Rattle.text_blocks.proofs.put_ticket.Goals as goal

pub append_row-requires : goal.append_row-requires
append_row-requires c =
    let place = c.args.place in
    let is = c.ticket_row-row.ensures ∙ ap (ticket_row (place / 64) (place / 8 % 8)) c.ticket_at-k.ensures in
    line_room_lem _ _ is c.args.at c.requires.1.1

pub returns : goal.returns
returns c =
    let place = c.args.place in
    let is = c.ticket_row-row.ensures ∙ ap (ticket_row (place / 64) (place / 8 % 8)) c.ticket_at-k.ensures in
    line_put _ _ is _ _ _ _ c.append_row.ensures
