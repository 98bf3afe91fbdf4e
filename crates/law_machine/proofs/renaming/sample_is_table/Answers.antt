use Rattle.law_machine.proofs.Renamed.Example.{sample_is_table}
use Rattle.law_machine.proofs.renaming.sample_is_table.Goals as goal

pub returns : goal.returns
returns c = sample_is_table
