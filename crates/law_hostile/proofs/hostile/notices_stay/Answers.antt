use Rattle.law_hostile.proofs.Stays.{notices_stay}
use Rattle.law_hostile.proofs.hostile.notices_stay.Goals as goal

pub returns : goal.returns
returns c = notices_stay
