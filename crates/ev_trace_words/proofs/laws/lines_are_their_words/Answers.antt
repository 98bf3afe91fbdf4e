use Rattle.ev_trace_words.proofs.Joined.{line_again}
use Rattle.ev_trace_words.proofs.laws.lines_are_their_words.Goals as goal

pub returns : goal.returns
returns c = line_again
