use Rattle.ev_resident.proofs.Shows.{lines_shown}
use Rattle.ev_resident.proofs.naming_laws.lines_are_shown.Goals as goal

pub returns : goal.returns
returns c = lines_shown
