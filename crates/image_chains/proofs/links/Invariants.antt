-- `count` links lead from the ticket to the one whose parent is `up`.
use Rattle.tables.specs.Lookup.{lookup}
use Rattle.tables.specs.Chains.{parent_of}
use Rattle.image.specs.Image.{decode}
use Rattle.image_chains.proofs.Walk.{Counted}
use Rattle.image_chains.proofs.links.Given as goal

abbrev pub invariant-loop-count : goal.invariant-loop-count
invariant-loop-count l = Counted (parent_of (lookup (decode l.image))) l.fn.n l.count l.up
