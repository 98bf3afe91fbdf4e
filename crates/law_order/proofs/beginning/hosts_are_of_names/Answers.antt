use Rattle.law_order.proofs.Runs.Beginnings.{hosts_are_of_names}
use Rattle.law_order.proofs.beginning.hosts_are_of_names.Goals as goal

pub returns : goal.returns
returns c = hosts_are_of_names
