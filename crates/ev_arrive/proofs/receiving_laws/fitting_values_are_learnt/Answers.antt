use Rattle.ev_arrive.specs.Bringing.{part}
use Rattle.ev_arrive.proofs.Fits.{fits_learnt}
use Rattle.ev_arrive.proofs.receiving_laws.fitting_values_are_learnt.Goals as goal

pub returns : goal.returns
returns c = λ h from b fits. fits_learnt from (part b) h fits
