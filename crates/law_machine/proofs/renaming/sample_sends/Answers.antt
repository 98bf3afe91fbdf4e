use Rattle.law_machine.proofs.Renamed.Example.{sample_sends}
use Rattle.law_machine.proofs.renaming.sample_sends.Goals as goal

pub returns : goal.returns
returns c = sample_sends
