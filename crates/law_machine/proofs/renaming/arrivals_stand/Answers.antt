use Rattle.law_machine.proofs.Renamed.Steps.{arrivals_stand}
use Rattle.law_machine.proofs.renaming.arrivals_stand.Goals as goal

pub returns : goal.returns
returns c = arrivals_stand
