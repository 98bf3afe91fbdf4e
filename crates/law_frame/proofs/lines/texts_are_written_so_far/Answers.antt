use Rattle.law_frame.proofs.Stopping.ShownRuns.{texts_written}
use Rattle.law_frame.proofs.lines.texts_are_written_so_far.Goals as goal

pub returns : goal.returns
returns c = texts_written
