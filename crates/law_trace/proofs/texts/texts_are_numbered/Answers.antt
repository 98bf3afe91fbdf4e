use Rattle.law_trace.proofs.Trace.Placed.{texts_numbered}
use Rattle.law_trace.proofs.texts.texts_are_numbered.Goals as goal

pub returns : goal.returns
returns c = texts_numbered
