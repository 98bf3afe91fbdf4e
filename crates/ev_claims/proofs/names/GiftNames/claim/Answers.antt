use Rattle.ev_claims.proofs.Sets.{claimed_all, claimed_next}
use Rattle.ev_claims.proofs.names.GiftNames.claim.Goals as goal

pub loop-gift-preserved : goal.loop-gift-preserved
loop-gift-preserved c = claimed_next c.args.gifts.now c.loop-gift.gift-index c.gift-item.result c.args.self.now c.loop-gift.self c.claim_one.new.self c.loop-gift-test.true c.gift-item.is c.loop-gift.invariant c.in_ok-claim_one.ensures

pub returns : goal.returns
returns c = claimed_all c.args.gifts.now c.loop-gift.gift-index c.args.self.now c.loop-gift.self c.loop-gift-test.false c.loop-gift.invariant
