use Rattle.ev_receiver.proofs.Heard.{counts_same}
use Rattle.ev_receiver.proofs.laws.counts_are_the_machines.Goals as goal

pub returns : goal.returns
returns c = counts_same
