-- Before each request `Going` holds.
use Rattle.image.specs.Image.{decode}
use Rattle.lending.specs.Sequence.{start_with}
use Rattle.batch.proofs.Steps.{Going}
use Rattle.batch.proofs.serve_all.Given as goal

abbrev pub invariant-loop-i : goal.invariant-loop-i
invariant-loop-i l =
    Going (start_with (decode l.initial.tables) l.initial.store l.initial.sheets l.requests) l.initial.answers l.i l.tables l.store l.sheets l.answers
