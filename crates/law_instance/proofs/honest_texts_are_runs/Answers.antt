use Rattle.law_instance.proofs.Texts.{texts_are_runs}
use Rattle.law_instance.proofs.honest_texts_are_runs.Goals as goal

pub returns : goal.returns
returns c = texts_are_runs
