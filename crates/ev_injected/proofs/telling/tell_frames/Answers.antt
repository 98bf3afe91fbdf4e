use Rattle.std.proofs.Common.{◌∙◌}
use Rattle.ev_injected.proofs.Tellings.{left_all, left_next, shrunk}
use Rattle.ev_injected.proofs.telling.tell_frames.Goals as goal

pub loop-frame-preserved : goal.loop-frame-preserved
loop-frame-preserved c = left_next c.args.from c.args.to c.loop-frame.history c.push.new.self c.in-Some.frame c.pop_front.new.self.items c.loop-frame.frames.items c.in-Some.ensures.items c.in_ok-push.ensures.ok ∙ c.loop-frame.invariant

pub returns : goal.returns
returns c = left_all c.args.from c.args.to c.loop-frame.history _ c.loop-frame.frames.items (shrunk c.loop-frame.frames.items (c.in_default.ensures.items ∙ c.in_default.ensures.rest)) c.loop-frame.invariant
