use Rattle.std.proofs.Common.{arith}
use Rattle.ev_text.proofs.CharacterLemmas.{reads_more, read_to_end}
use Rattle.ev_text.proofs.texts.first_characters.Goals as goal

pub loop-c-preserved : goal.loop-c-preserved
loop-c-preserved c = reads_more _ _ _ _ _ _ _ (omega arith) c.in-Some.ensures.steps.0 c.in_ok-push.ensures.bytes c.loop-c.invariant

pub returns : goal.returns
returns c = read_to_end _ _ _ _ c.in-None.ensures.steps.0.0 c.loop-c.invariant
