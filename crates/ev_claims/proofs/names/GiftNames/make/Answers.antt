use Rattle.ev_claims.proofs.Sets.{made_all, made_next}
use Rattle.ev_claims.proofs.names.GiftNames.make.Goals as goal

pub loop-gift-preserved : goal.loop-gift-preserved
loop-gift-preserved c = made_next c.args.gifts.now c.loop-gift.gift-index c.gift-item.result c.args.self.now c.loop-gift.self c.make_one.new.self c.loop-gift-test.true c.gift-item.is c.loop-gift.invariant c.in_ok-make_one.ensures

pub returns : goal.returns
returns c = made_all c.args.gifts.now c.loop-gift.gift-index c.args.self.now c.loop-gift.self c.loop-gift-test.false c.loop-gift.invariant
