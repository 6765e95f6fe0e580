use Rattle.text_docks.proofs.+head_of.Given as goal

abbrev pub decreases-head_of : goal.decreases-head_of
decreases-head_of l = l.left
