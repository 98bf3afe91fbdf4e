use Rattle.law_reference.proofs.Reference.HostsRuns.{hosts_rest_in_runs}
use Rattle.law_reference.proofs.rest.hosts_rest.Goals as goal

pub returns : goal.returns
returns c = hosts_rest_in_runs
