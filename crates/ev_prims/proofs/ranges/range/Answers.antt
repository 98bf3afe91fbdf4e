use Rattle.ev_prims.proofs.RangeAnswers.{range_so}
use Rattle.ev_prims.proofs.ranges.range.Goals as goal

pub returns-clause-is : goal.returns-clause-is
returns-clause-is c = range_so c.args.last c.args.x c.args.y c.ranged.result c.ranged.ensures
