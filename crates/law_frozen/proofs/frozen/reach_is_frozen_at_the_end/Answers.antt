use Rattle.law_frozen.proofs.RunSound.{reach_at_the_end}
use Rattle.law_frozen.proofs.frozen.reach_is_frozen_at_the_end.Goals as goal

pub returns : goal.returns
returns c = reach_at_the_end
