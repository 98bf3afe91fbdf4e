use Rattle.law_order.proofs.ToldOnce.Runs.{each_is_told_once}
use Rattle.law_order.proofs.each_is_told_once.Goals as goal

pub returns : goal.returns
returns c = each_is_told_once
