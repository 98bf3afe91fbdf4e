use Rattle.std.proofs.Common.{Some}
use Rattle.ev_top.proofs.Severed.{severed_stays}
use Rattle.ev_top.proofs.laws.severed_stays_broken.Goals as goal

pub returns : goal.returns
returns c = λ command input. severed_stays (Some input) command
