use Rattle.std.proofs.Common.{Some}
use Rattle.ev_top.proofs.Entries.{entries_do}
use Rattle.ev_top.proofs.laws.entries_do_what_is_there.Goals as goal

pub returns : goal.returns
returns c = λ command input. entries_do (Some input) command
