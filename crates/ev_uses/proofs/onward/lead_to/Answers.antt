use Rattle.std.proofs.lemmas.Result.{on_ok_weaker}
use Rattle.ev_uses.proofs.Leading.{one_led}
use Rattle.ev_uses.proofs.onward.lead_to.Goals as goal

pub returns : goal.returns
returns c = on_ok_weaker c.add.result (one_led c.args.from c.args.way c.args.to c.args.links.now c.add.new.self) c.add.ensures
