use Rattle.law_lawful.proofs.Reached.{names_made}
use Rattle.law_lawful.proofs.names_were_made.Goals as goal

pub returns : goal.returns
returns c = names_made
