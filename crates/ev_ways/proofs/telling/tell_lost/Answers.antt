use Rattle.std.proofs.Common.{Option, ◌++◌, ap, ◌∙◌}
use Rattle.ev_base.specs.declared.names.Msg.{Msg}
use Rattle.ev_ways.specs.Telling.{lost_event}
use Rattle.ev_ways.proofs.Tellings.{shrunk, lost_all, lost_next}
use Rattle.ev_ways.proofs.telling.tell_lost.Goals as goal

pub loop-label-preserved : goal.loop-label-preserved
loop-label-preserved c =
    lost_next c.loop-label.history c.tell_one.new.history c.in-Some.label c.pop_front.new.self.items c.loop-label.labels.items c.in-Some.ensures.items
    (c.in_ok-tell_one.ensures ∙ ap (λ (o : Option Msg). c.loop-label.history ++ lost_event o) c.into_message.ensures)
    ∙ c.loop-label.invariant

pub returns : goal.returns
returns c = lost_all c.loop-label.history _ c.loop-label.labels.items (shrunk c.loop-label.labels.items (c.in_default.ensures.items ∙ c.in_default.ensures.rest)) c.loop-label.invariant
