use Rattle.law_hostile_tables.proofs.Positions.{of_hosts}
use Rattle.law_hostile_tables.proofs.exports_are_of_their_hosts.Goals as goal

pub returns : goal.returns
returns c = of_hosts
