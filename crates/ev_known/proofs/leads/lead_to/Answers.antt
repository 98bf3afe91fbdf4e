use Rattle.std.proofs.lemmas.Result.{on_ok_weaker}
use Rattle.ev_known.proofs.Leading.{one_added}
use Rattle.ev_known.proofs.leads.lead_to.Goals as goal

pub returns : goal.returns
returns c = on_ok_weaker c.add.result (one_added c.args.link.now c.args.to c.args.links.now c.add.new.self) c.add.ensures
