use Rattle.law_trace.proofs.Trace.RenamedSame.{words_same}
use Rattle.law_trace.proofs.words.words_are_same_by_other_numbers.Goals as goal

pub returns : goal.returns
returns c = words_same
