use Rattle.std.proofs.Common.{Some}
use Rattle.ev_top.proofs.Order.{runs_hold_order}
use Rattle.ev_top.proofs.laws.runs_hold_order.Goals as goal

pub returns : goal.returns
returns c = λ command input. runs_hold_order (Some input) command
