use mathlib.Core.Path.{◌∙◌}
use Rattle.text_blocks.proofs.RowLaws.{last_row_lem}
use Rattle.text_blocks.proofs.Lines.{line_room_lem, line_put}
use Rattle.text_blocks.proofs.put_last.Goals as goal

pub append_row-requires : goal.append_row-requires
append_row-requires c =
    let is = c.number_row-row.ensures ∙ last_row_lem c.args.image.now c.args.program _ c.requires.1.0 c.last_at-last.ensures in
    line_room_lem _ _ is c.args.at c.requires.1.1

pub returns : goal.returns
returns c =
    let is = c.number_row-row.ensures ∙ last_row_lem c.args.image.now c.args.program _ c.requires.1.0 c.last_at-last.ensures in
    line_put _ _ is _ _ _ _ c.append_row.ensures
