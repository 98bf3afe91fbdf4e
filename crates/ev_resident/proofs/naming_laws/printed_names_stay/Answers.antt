use Rattle.ev_resident.proofs.Later.{names_stay}
use Rattle.ev_resident.proofs.naming_laws.printed_names_stay.Goals as goal

pub returns : goal.returns
returns c = names_stay
