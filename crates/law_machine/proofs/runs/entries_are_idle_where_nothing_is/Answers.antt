use Rattle.law_machine.proofs.Run.Entries.{idle_where_nothing}
use Rattle.law_machine.proofs.runs.entries_are_idle_where_nothing_is.Goals as goal

pub returns : goal.returns
returns c = idle_where_nothing
