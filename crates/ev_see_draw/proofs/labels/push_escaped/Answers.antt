use Rattle.ev_see_draw.proofs.LabelLemmas.{labels_more, labels_all}
use Rattle.ev_see_draw.proofs.labels.push_escaped.Goals as goal

pub loop-c-preserved : goal.loop-c-preserved
loop-c-preserved c = labels_more _ _ _ _ _ _ c.in-Some.ensures.steps.0 c.in_ok-push_escaped_character.ensures c.loop-c.invariant

pub returns : goal.returns
returns c = labels_all _ _ _ c.in-None.ensures.steps.0.0 c.loop-c.invariant
