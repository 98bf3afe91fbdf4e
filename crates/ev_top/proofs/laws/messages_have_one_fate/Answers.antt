use Rattle.std.proofs.Common.{Some}
use Rattle.ev_top.proofs.Fates.{one_fate}
use Rattle.ev_top.proofs.laws.messages_have_one_fate.Goals as goal

pub returns : goal.returns
returns c = λ command input. one_fate (Some input) command
