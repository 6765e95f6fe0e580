-- The lines of the blocks below m are put.
use Rattle.image.specs.Image.{decode}
use Rattle.text_blocks.proofs.Rounds.{Round}
use Rattle.text_blocks.proofs.put_blocks.Given as goal

abbrev pub invariant-loop-m : goal.invariant-loop-m
invariant-loop-m l = Round (decode l.image) l.initial.out l.at l.out l.end l.m
