use Rattle.law_reference.proofs.Reference.KnownRuns.{names_are_known_once}
use Rattle.law_reference.proofs.tables.names_are_known_once.Goals as goal

pub returns : goal.returns
returns c = names_are_known_once
