use Rattle.ev_links.proofs.Planning.{none_plan}
use Rattle.ev_links.proofs.chains.Plan.new.Goals as goal

pub returns : goal.returns
returns c = none_plan c.new.result c.new-2.result c.new.ensures c.new-2.ensures
