use Rattle.law_honest_frames.proofs.Runs.{texts_are_runs}
use Rattle.law_honest_frames.proofs.honest_texts_in_numbers_are_runs.Goals as goal

pub returns : goal.returns
returns c = texts_are_runs
