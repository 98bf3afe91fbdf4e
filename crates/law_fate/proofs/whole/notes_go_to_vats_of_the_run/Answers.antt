use Rattle.law_fate.proofs.Fates.WholeFateLaws.{notes_go_to_vats_of_the_run}
use Rattle.law_fate.proofs.whole.notes_go_to_vats_of_the_run.Goals as goal

pub returns : goal.returns
returns c = notes_go_to_vats_of_the_run
