use Rattle.ev_wire.proofs.Fitting as fitting
use Rattle.ev_wire.proofs.hearing_laws.what_is_heard_fits.Goals as goal

pub returns : goal.returns
returns c = λ i t l o x s is e. fitting.what_is_heard_fits i t l o x s is e
