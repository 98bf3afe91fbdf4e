-- Each entry of a run that is owed does what is there to do.
use Rattle.std.proofs.Common.{ℕ, ◌+◌, List, Option, Some, None, IfSome, length}
use Rattle.law_machine.proofs.Run.Entries.{idle_where_nothing}
use Rattle.ev_top.specs.Headline.{EntriesDoWhatIsThere}
use Rattle.ev_top.specs.declared.command.Command.{Command}

pub entries_do : (left : Option (List ℕ)) (command : Option Command) → IfSome left (λ input. EntriesDoWhatIsThere command input)
entries_do None command = tt
entries_do (Some input) command = λ script runs es rest entry first next split leads goes. idle_where_nothing script entry (1 + length es) first next goes
