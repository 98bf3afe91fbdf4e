use Rattle.law_trace.proofs.Trace.VatsFound.{vats_found}
use Rattle.law_trace.proofs.texts.vats_are_found.Goals as goal

pub returns : goal.returns
returns c = vats_found
