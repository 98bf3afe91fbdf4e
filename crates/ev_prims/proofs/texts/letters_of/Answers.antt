use Rattle.ev_prims.proofs.TextLemmas.{gathers_more, gathers_all}
use Rattle.ev_prims.proofs.texts.letters_of.Goals as goal

pub loop-c-preserved : goal.loop-c-preserved
loop-c-preserved c = gathers_more _ _ _ _ _ _ c.in-Some.ensures.steps.0 c.in_ok-push.ensures.ok c.loop-c.invariant

pub returns : goal.returns
returns c = gathers_all _ _ _ c.in-None.ensures.steps.0.0 c.loop-c.invariant
