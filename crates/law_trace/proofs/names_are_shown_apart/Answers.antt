use Rattle.law_trace.proofs.Told.Apart.{names_apart}
use Rattle.law_trace.proofs.names_are_shown_apart.Goals as goal

pub returns : goal.returns
returns c = names_apart
