use Rattle.std.proofs.lemmas.Result.{on_ok_weaker}
use Rattle.ev_uses.proofs.Calling.{opened}
use Rattle.ev_uses.proofs.calls.Calls.open.Goals as goal

pub returns : goal.returns
returns c past h =
    on_ok_weaker c.push.result (opened past c.args.at c.args.called.now c.args.self.now c.push.new.self c.in_ok-asks.asks (c.in_ok-asks.ensures past h)) c.push.ensures
