use Rattle.law_frame.proofs.Frame.Seen.{written_read}
use Rattle.law_frame.proofs.frames.what_is_written_is_read.Goals as goal

pub returns : goal.returns
returns c = written_read
