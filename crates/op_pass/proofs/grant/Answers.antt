use Rattle.image.specs.Image.{decode}
use Rattle.op_pass.proofs.Steps.{granted_near, granted_far}
use Rattle.op_pass.proofs.grant.Goals as goal

pub returns-then-r : goal.returns-then-r
returns-then-r c =
    let a = c.args in
    record {
      is = c.give.ensures.is;
      tables = granted_near (decode a.image.now) a.k a.r a.n c.if-r.true c.asked_name-parent.ensures c.child-child.ensures c.give.ensures.tables;
    }

pub returns-else-r : goal.returns-else-r
returns-else-r c =
    let a = c.args in
    record {
      is = c.make.ensures.is;
      tables = granted_far (decode a.image.now) a.k a.r a.n c.if-r.false c.head-received.ensures c.give-else-r.ensures.tables c.entry-entry.ensures c.make.ensures.tables;
    }
