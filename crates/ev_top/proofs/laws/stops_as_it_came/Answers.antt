use Rattle.std.proofs.Common.{Some}
use Rattle.ev_top.proofs.Reach.{stops_as_it_came}
use Rattle.ev_top.proofs.laws.stops_as_it_came.Goals as goal

pub returns : goal.returns
returns c = λ command input. stops_as_it_came (Some input) command
