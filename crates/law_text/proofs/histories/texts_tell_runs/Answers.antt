use Rattle.law_text.proofs.Text.Stopped.{texts_tell_runs}
use Rattle.law_text.proofs.histories.texts_tell_runs.Goals as goal

pub returns : goal.returns
returns c = texts_tell_runs
