use Rattle.law_hostile_carry.proofs.Settles.{frames_settle_well}
use Rattle.law_hostile_carry.proofs.frames_settle_well.Goals as goal

pub returns : goal.returns
returns c = frames_settle_well
