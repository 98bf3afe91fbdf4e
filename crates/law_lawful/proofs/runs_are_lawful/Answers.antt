use Rattle.law_lawful.proofs.Runs.{runs_lawful}
use Rattle.law_lawful.proofs.runs_are_lawful.Goals as goal

pub returns : goal.returns
returns c = runs_lawful
