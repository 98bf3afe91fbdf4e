use Rattle.ev_op.proofs.numbers.+low_first_of.Given as goal

abbrev pub decreases-low_first_of : goal.decreases-low_first_of
decreases-low_first_of l = l.places
