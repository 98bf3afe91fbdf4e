use Rattle.law_trace.proofs.Trace.Placed.{vats_placed}
use Rattle.law_trace.proofs.texts.vats_have_places.Goals as goal

pub returns : goal.returns
returns c = vats_placed
