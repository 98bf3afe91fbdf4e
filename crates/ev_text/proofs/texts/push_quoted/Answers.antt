use Rattle.ev_text.proofs.QuotingLemmas.{one_more, all_written}
use Rattle.ev_text.proofs.texts.push_quoted.Goals as goal

pub loop-c-preserved : goal.loop-c-preserved
loop-c-preserved c = one_more _ _ _ _ _ _ c.in-Some.ensures.steps.0 c.in_ok-push_escaped.ensures c.loop-c.invariant

pub returns : goal.returns
returns c = all_written _ _ c.args.text.now _ _ _ c.in-None.ensures.steps.0.0 c.loop-c.invariant c.push-2.ensures.bytes
