use Rattle.law_uses.proofs.Uses.Texts.{things_are_made_once}
use Rattle.law_uses.proofs.things_are_made_once_in_runs.Goals as goal

pub returns : goal.returns
returns c = things_are_made_once
