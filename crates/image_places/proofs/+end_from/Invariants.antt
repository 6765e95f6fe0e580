use Rattle.image_places.proofs.+end_from.Given as goal

abbrev pub decreases-end_from : goal.decreases-end_from
decreases-end_from l = l.left
