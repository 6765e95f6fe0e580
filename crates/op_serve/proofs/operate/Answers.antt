use native.Mathlib.Omega.{arith}
use mathlib.Core.Path.{◌≡◌, sym}
use Rattle.op_form.proofs.Laws.{op_low, op_high}
use Rattle.op_serve.proofs.FromOrder.{ready_lent}
use Rattle.op_serve.proofs.Parts.{asks}
use Rattle.op_serve.proofs.operate.Goals as goal

pub pass-requires : goal.pass-requires
pass-requires c = (c.requires.ready.is, (ready_lent c.requires.ready, asks 2 c.args.r (sym c.requires.early) c.in-2.is))

pub recall-requires : goal.recall-requires
recall-requires c = (c.requires.ready.is, (ready_lent c.requires.ready, asks 3 c.args.r (sym c.requires.early) c.in-3.is))

pub give_back-requires : goal.give_back-requires
give_back-requires c = (c.requires.ready.is, (ready_lent c.requires.ready, asks 4 c.args.r (sym c.requires.early) c.in-4.is))

pub read-requires : goal.read-requires
read-requires c = (c.requires.ready.is, (ready_lent c.requires.ready, asks 5 c.args.r (sym c.requires.early) c.in-5.is))

pub write-requires : goal.write-requires
write-requires c =
    let r = c.args.r in
    let six : r.op ≡ 6 = omega (arith, op_low r c.requires.early, op_high r c.requires.early) in
    (c.requires.ready.is, (ready_lent c.requires.ready, asks 6 r (sym c.requires.early) six))

pub returns-in-1 : goal.returns-in-1
returns-in-1 c = c.take.ensures c.args.sheet.now

pub returns-in-2 : goal.returns-in-2
returns-in-2 c = c.pass.ensures c.args.store.now c.args.sheet.now

pub returns-in-3 : goal.returns-in-3
returns-in-3 c = c.recall.ensures c.args.store.now c.args.sheet.now

pub returns-in-4 : goal.returns-in-4
returns-in-4 c = c.give_back.ensures c.args.sheet.now
