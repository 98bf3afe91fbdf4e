use Rattle.ev_known.proofs.Followed.{none_stand}
use Rattle.ev_known.proofs.following.Following.new.Goals as goal

pub returns-clause-stands : goal.returns-clause-stands
returns-clause-stands c p = none_stand c.new.result c.new-2.result c.args.plan c.new-3.result c.new.ensures c.new-2.ensures c.new-3.ensures p
