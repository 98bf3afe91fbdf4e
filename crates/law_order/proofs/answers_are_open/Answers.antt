use Rattle.law_order.proofs.Waits.Runs.{answers_are_open}
use Rattle.law_order.proofs.answers_are_open.Goals as goal

pub returns : goal.returns
returns c = answers_are_open
