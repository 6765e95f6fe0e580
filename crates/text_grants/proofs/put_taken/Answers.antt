-- The taken grants of the programs below `program` are printed.
use native.Mathlib.Omega.{arith}
use Rattle.text_grants.proofs.Programs.{round_none, round_end, round_ready, round_few, round_more}
use Rattle.text_grants.proofs.put_taken.Goals as goal

pub loop-program-init : goal.loop-program-init
loop-program-init c =
    let a = c.args in
    round_none a.image.now a.marks.now a.out.now a.at c.requires.scratch

pub put_program-printing-requires : goal.put_program-printing-requires
put_program-printing-requires c =
    let round = c.loop-program.invariant in
    let low = c.loop-program-test.true in
    (round_ready _ _ _ _ _ _ _ _ round c.requires low, (low, round_few _ _ _ _ _ _ _ _ round c.requires low))

pub loop-program-preserved : goal.loop-program-preserved
loop-program-preserved c =
    let p = c.put_program-printing in
    round_more _ _ _ _ _ _ _ _ c.loop-program.invariant c.requires c.loop-program-test.true _ _ _ p.array_long p.auto.out p.ensures

pub returns : goal.returns
returns c =
    round_end _ _ _ _ _ _ _ _ c.loop-program.invariant c.requires (omega arith)
