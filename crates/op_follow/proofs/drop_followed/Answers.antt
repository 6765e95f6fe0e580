-- Marks, then entries, then tickets.
use mathlib.Core.Path.{refl}
use Rattle.op_follow.proofs.ByNames.{followed}
use Rattle.op_follow.proofs.drop_followed.Goals as goal

pub returns : goal.returns
returns c =
    let a = c.args in
    followed a.image.now _ _ _ c.requires.1.0 a.also a.x c.requires.1.1.0.0 c.requires.1.1.0.1 c.mark_under.ensures _ refl
    c.drop_lent.ensures c.clear_marked.ensures
