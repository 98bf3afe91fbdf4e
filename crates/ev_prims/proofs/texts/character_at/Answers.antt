use Rattle.std.proofs.Common.{arith}
use Rattle.ev_prims.proofs.TextLemmas.{seeks_more, seeks_past}
use Rattle.ev_prims.proofs.texts.character_at.Goals as goal

pub loop-c-preserved : goal.loop-c-preserved
loop-c-preserved c = seeks_more _ _ _ _ _ (omega arith) c.in-Some.ensures.steps.0 c.loop-c.invariant

pub returns : goal.returns
returns c = seeks_past _ _ _ c.in-None.ensures.steps.0.0 c.loop-c.invariant
