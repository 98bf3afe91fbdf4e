use Rattle.law_trace.proofs.Trace.WordsAgain.{words_again}
use Rattle.law_trace.proofs.words.words_are_read_again.Goals as goal

pub returns : goal.returns
returns c = words_again
