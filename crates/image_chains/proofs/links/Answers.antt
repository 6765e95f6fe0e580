use native.Mathlib.Omega.{arith}
use Rattle.tables.specs.Lookup.{lookup}
use Rattle.tables.specs.Chains.{parent_of}
use Rattle.image.specs.Image.{decode}
use Rattle.image_chains.proofs.Walk.{at_the_head, places_spent}
use Rattle.image_chains.proofs.links.Goals as goal

pub returns-then-up-eq0 : goal.returns-then-up-eq0
returns-then-up-eq0 c =
    at_the_head (parent_of (lookup (decode c.args.image.now))) c.args.n c.loop-count.count _ c.loop-count.invariant c.if-up-eq0.true

pub returns : goal.returns
returns c =
    let spent = places_spent (parent_of (lookup (decode c.args.image.now))) c.args.n c.loop-count.count _ c.loop-count.invariant (omega arith) in
    omega (arith, spent)
