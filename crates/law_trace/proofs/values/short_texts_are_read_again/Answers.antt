use Rattle.law_trace.proofs.Trace.TextsAgain.{short_texts_again}
use Rattle.law_trace.proofs.values.short_texts_are_read_again.Goals as goal

pub returns : goal.returns
returns c = short_texts_again
