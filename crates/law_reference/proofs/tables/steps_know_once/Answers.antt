use Rattle.law_reference.proofs.Reference.NameTableSteps.{steps_know_once}
use Rattle.law_reference.proofs.tables.steps_know_once.Goals as goal

pub returns : goal.returns
returns c = steps_know_once
