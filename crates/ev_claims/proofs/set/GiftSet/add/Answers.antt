use Rattle.ev_claims.proofs.Sets.{inserted}
use Rattle.ev_claims.proofs.set.GiftSet.add.Goals as goal

pub returns-clause-ok : goal.returns-clause-ok
returns-clause-ok c = inserted c.args.gift.now c.self.inside.gifts.keys c.insert_full.new.self.keys c.args.self.now c.self.view_is c.in_ok-insert_full.ensures.keys
