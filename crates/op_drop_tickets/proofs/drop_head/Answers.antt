-- What is marked goes, and that is what the names say.
use mathlib.Core.Path.{refl}
use Rattle.op_drop_tickets.proofs.Removal.{head_removed}
use Rattle.op_drop_tickets.proofs.drop_head.Goals as goal

pub returns : goal.returns
returns c =
    let a = c.args in
    head_removed a.image.now _ _ c.requires.1.0 c.requires.1.1.0 a.h c.requires.1.1.1 c.mark_docked.ensures _ refl c.clear_marked.ensures
