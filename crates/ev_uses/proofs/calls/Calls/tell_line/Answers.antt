use Rattle.std.proofs.lemmas.Result.{on_ok_weaker}
use Rattle.ev_uses.proofs.Calling.{line_called}
use Rattle.ev_uses.proofs.calls.Calls.tell_line.Goals as goal

pub returns : goal.returns
returns c past h stand =
    on_ok_weaker c.tell_event.result (λ after. line_called c.args.at c.args.event.now past c.args.self.now c.tell_event.new.self after stand) (c.tell_event.ensures past h)
