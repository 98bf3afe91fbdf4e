use Rattle.std.proofs.Common.{Some}
use Rattle.ev_top.proofs.Uses.{runs_hold_uses}
use Rattle.ev_top.proofs.laws.runs_hold_uses.Goals as goal

pub returns : goal.returns
returns c = λ command input. runs_hold_uses (Some input) command
