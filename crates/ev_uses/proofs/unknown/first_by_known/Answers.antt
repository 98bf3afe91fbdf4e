use Rattle.std.proofs.Common.{[]}
use Rattle.ev_uses.proofs.Giving.{both_stand}
use Rattle.ev_uses.proofs.unknown.first_by_known.Goals as goal

pub returns : goal.returns
returns c known = c.first_failing.ensures (both_stand c.args.knowledge.now c.new-calls.result [] known c.new-calls.ensures)
