use Rattle.std.proofs.Common.{Some}
use Rattle.ev_top.proofs.Reach.{uses_connected}
use Rattle.ev_top.proofs.laws.uses_are_connected.Goals as goal

pub returns : goal.returns
returns c = λ command input. uses_connected (Some input) command
