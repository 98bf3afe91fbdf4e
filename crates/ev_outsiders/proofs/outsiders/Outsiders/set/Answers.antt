use Rattle.ev_outsiders.proofs.Counts.{set_there}
use Rattle.ev_outsiders.proofs.outsiders.Outsiders.set.Goals as goal

pub returns-then-place-len : goal.returns-then-place-len
returns-then-place-len c = set_there c.self.inside.counts.items c.args.self.now c.args.place c.args.outsider c.self.view_is
