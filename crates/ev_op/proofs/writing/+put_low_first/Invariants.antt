use Rattle.ev_op.proofs.writing.+put_low_first.Given as goal

abbrev pub decreases-put_low_first : goal.decreases-put_low_first
decreases-put_low_first l = l.places
