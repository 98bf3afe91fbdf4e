use Rattle.std.proofs.Common.{Some}
use Rattle.ev_top.proofs.Reach.{frozen_alone}
use Rattle.ev_top.proofs.laws.stamped_reach_frozen_alone.Goals as goal

pub returns : goal.returns
returns c = λ command input. frozen_alone (Some input) command
