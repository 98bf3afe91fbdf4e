use Rattle.law_never_astray.proofs.AcceptedTrees.{accepted_scoped}
use Rattle.law_never_astray.proofs.scoped.accepted_trees_are_scoped.Goals as goal

pub returns : goal.returns
returns c = accepted_scoped
