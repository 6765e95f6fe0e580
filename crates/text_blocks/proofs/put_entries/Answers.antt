-- The lines of the entries whose grants have a number up to the walk's are put.
use native.Mathlib.Omega.{arith}
use mathlib.Core.Path.{◌∙◌}
use Rattle.image.specs.Image.{decode}
use Rattle.saved_blocks.specs.Blocks.{has_entry, entry_line, entry_lines}
use Rattle.text_blocks.proofs.Going.{going_none, going_end, going_low, going_passes, going_room, going_more}
use Rattle.text_blocks.proofs.Chosen.{entries}
use Rattle.text_blocks.proofs.put_entries.Goals as goal

pub loop-i-init : goal.loop-i-init
loop-i-init c =
    let a = c.args in
    let image = a.image.now in
    going_none image (has_entry (decode image)) (entry_line (decode image)) a.program _ _ _ _ c.entry_numbers-numbers.ensures
    (c.into_iter-i-iterator.ensures.into_iter_gives ∙ c.by_number-i-items.ensures)

pub put_entry-end-requires : goal.put_entry-end-requires
unfolding entry_lines
put_entry-end-requires c =
    let a = c.args in
    let p = c.requires in
    let chosen = entries a.image.now p.0 a.program p.1.0.1 in
    let room = going_room _ _ _ _ _ chosen _ _ _ _ _ c.loop-i.invariant _ _ c.in-Some.ensures.steps p.1.1 in
    let low = going_low _ _ _ _ _ chosen _ _ _ _ _ c.loop-i.invariant _ _ c.in-Some.ensures.steps in
    let has = going_passes _ _ _ _ _ chosen _ _ _ _ _ c.loop-i.invariant _ _ c.in-Some.ensures.steps in
    (p.0, (p.1.0.0, (omega (arith, p.1.0.1, low), (has, room))))

pub loop-i-preserved : goal.loop-i-preserved
loop-i-preserved c =
    let a = c.args in
    let p = c.requires in
    let chosen = entries a.image.now p.0 a.program p.1.0.1 in
    going_more _ _ _ _ _ chosen _ _ _ _ _ c.loop-i.invariant _ _ c.in-Some.ensures.steps _ _ c.put_entry-end.ensures

pub returns : goal.returns
unfolding entry_lines
returns c =
    let a = c.args in
    let p = c.requires in
    let chosen = entries a.image.now p.0 a.program p.1.0.1 in
    going_end _ _ _ _ _ chosen _ _ _ _ _ c.loop-i.invariant c.in-None.ensures.steps.0
