use Rattle.law_hostile.proofs.Stays.{settlings_stay}
use Rattle.law_hostile.proofs.hostile.settlings_stay.Goals as goal

pub returns : goal.returns
returns c = settlings_stay
