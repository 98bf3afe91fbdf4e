use Rattle.std.proofs.lemmas.Result.{on_ok_weaker}
use Rattle.ev_uses.proofs.Leading.{line_leads}
use Rattle.ev_uses.proofs.onward.tell_onward.Goals as goal

pub returns : goal.returns
returns c past stand =
    on_ok_weaker c.tell_event.result (λ added. line_leads c.args.at c.args.event.now past c.args.links.now c.tell_event.new.links added stand) c.tell_event.ensures
