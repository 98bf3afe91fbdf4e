use Rattle.law_machine.proofs.Run.RunLaws.{resolvers_open, resolvers_run}
use Rattle.law_machine.proofs.runs.resolvers_stay.Goals as goal

pub returns : goal.returns
returns c = (resolvers_open, resolvers_run)
