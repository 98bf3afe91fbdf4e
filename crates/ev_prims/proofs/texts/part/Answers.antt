use Rattle.std.proofs.Common.{arith}
use Rattle.ev_prims.proofs.TextLemmas.{passes, takes, is_full, is_over}
use Rattle.ev_prims.proofs.texts.part.Goals as goal

pub loop-c-preserved-then-before-gt0 : goal.loop-c-preserved-then-before-gt0
loop-c-preserved-then-before-gt0 c = passes _ _ _ _ _ _ _ (omega arith) c.in-Some.ensures.steps.0 c.loop-c.invariant

pub returns-then-left-eq0 : goal.returns-then-left-eq0
returns-then-left-eq0 c = is_full _ _ _ _ _ (omega arith) (omega arith) c.loop-c.invariant

pub loop-c-preserved : goal.loop-c-preserved
loop-c-preserved c = takes _ _ _ _ _ _ _ _ (omega arith) (omega arith) c.in-Some.ensures.steps.0 c.in_ok-push.ensures.bytes c.loop-c.invariant

pub returns : goal.returns
returns c = is_over _ _ _ _ _ c.in-None.ensures.steps.0.0 c.loop-c.invariant
