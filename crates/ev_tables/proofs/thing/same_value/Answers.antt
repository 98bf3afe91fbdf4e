use Rattle.ev_tables.proofs.Same.{same_from}
use Rattle.ev_tables.proofs.thing.same_value.Goals as goal

pub returns : goal.returns
returns c = same_from c.equal.result c.args.left c.args.right c.equal.ensures
