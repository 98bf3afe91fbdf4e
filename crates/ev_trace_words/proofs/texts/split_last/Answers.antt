use Rattle.std.proofs.Common.{arith}
use Rattle.ev_trace_words.proofs.LastMark.{splits_at_last}
use Rattle.ev_trace_words.proofs.texts.split_last.Goals as goal

pub returns : goal.returns
returns c = splits_at_last 43 c.args.word.now _ c.rsplit_once.ensures.cases (omega arith)
