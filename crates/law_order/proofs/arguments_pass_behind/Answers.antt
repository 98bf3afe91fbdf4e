use Rattle.law_order.proofs.History.Passed.{arguments_pass_behind}
use Rattle.law_order.proofs.arguments_pass_behind.Goals as goal

pub returns : goal.returns
returns c = arguments_pass_behind
