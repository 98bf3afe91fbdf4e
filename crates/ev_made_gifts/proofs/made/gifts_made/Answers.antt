use Rattle.std.proofs.Common.{ap, List, ◌++◌}
use Rattle.ev_claims.specs.Gifts.{claims_of}
use Rattle.ev_claims.specs.declared.gift.GiftId.{GiftId}
use Rattle.ev_made_gifts.proofs.Making.{all_made, made_all, made_next}
use Rattle.ev_made_gifts.proofs.made.gifts_made.Goals as goal

pub loop-put-init : goal.loop-put-init
loop-put-init c = λ texts. ap (λ (gs : List GiftId). claims_of gs ++ all_made texts c.args.puts.now) c.new-gifts.ensures.items

pub loop-put-preserved : goal.loop-put-preserved
loop-put-preserved c = λ texts. made_next texts c.args.puts.now c.loop-put.put-index c.put-item.result c.loop-put.gifts.items c.add_made.new.gifts.items c.loop-put-test.true c.put-item.is c.in_ok-add_made.ensures (c.loop-put.invariant texts)

pub returns : goal.returns
returns c = record { made = λ texts. made_all texts c.args.puts.now c.loop-put.put-index c.loop-put.gifts.items c.loop-put-test.false (c.loop-put.invariant texts) }
