use Rattle.law_text.proofs.RunTexts.Runs.{tell_runs}
use Rattle.law_text.proofs.texts_tell_runs_of_scripts.Goals as goal

pub returns : goal.returns
returns c = tell_runs
