use Rattle.law_fate.proofs.Fates.RunLight.{messages_go_to_hosts}
use Rattle.law_fate.proofs.carry.messages_go_to_hosts.Goals as goal

pub returns : goal.returns
returns c = messages_go_to_hosts
