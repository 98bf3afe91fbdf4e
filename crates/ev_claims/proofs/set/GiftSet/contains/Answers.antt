use Rattle.std.proofs.Common.{◌∙◌}
use Rattle.ev_claims.proofs.Sets.{contained}
use Rattle.ev_claims.proofs.set.GiftSet.contains.Goals as goal

pub returns : goal.returns
returns c = c.contains.ensures ∙ contained c.args.gift.now c.self.inside.gifts.keys c.args.self.now c.self.view_is
