-- The note at the place is the place of the entry.
use Prim.Native.Nat.{ℕ}
use native.Mathlib.Omega.{arith}
use mathlib.Core.Path.{ap, ◌∙◌}
use lib.ListN.{get_or}
use borrow.Author.Tests.{ltb-true}
use Rattle.tables.specs.Names.{no_entry}
use Rattle.image_read.specs.Places.{entries_in}
use Rattle.saved.specs.Save.{entry_row}
use Rattle.text_blocks.proofs.Lines.{line_room_lem, line_put}
use Rattle.text_blocks.proofs.put_entry.Goals as goal

pub entry_at-e-requires : goal.entry_at-e-requires
entry_at-e-requires c = let p = c.requires.1 in let low = ltb-true (get_or c.args.notes.now c.args.place 0) 256 (p.0.has c.args.place p.1.0 ∙ p.1.1.0) in omega (arith, c.from.ensures, low)

pub append_row-requires : goal.append_row-requires
append_row-requires c =
    let p = c.requires.1 in
    let read = ap (λ (i : ℕ). get_or (entries_in c.args.image.now) i no_entry) c.from.ensures in
    let is = c.entry_row.ensures ∙ ap entry_row (c.entry_at-e.ensures ∙ read ∙ p.0.entry c.args.place p.1.0 p.1.1.0) in
    line_room_lem _ _ is c.args.at p.1.1.1

pub returns : goal.returns
returns c =
    let p = c.requires.1 in
    let read = ap (λ (i : ℕ). get_or (entries_in c.args.image.now) i no_entry) c.from.ensures in
    let is = c.entry_row.ensures ∙ ap entry_row (c.entry_at-e.ensures ∙ read ∙ p.0.entry c.args.place p.1.0 p.1.1.0) in
    line_put _ _ is _ _ _ _ c.append_row.ensures
