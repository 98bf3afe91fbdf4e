use Rattle.std.proofs.Common.{◌≤◌, length, arith}
use Rattle.ev_resident.specs.Names.{gift_tells}
use Rattle.ev_resident.proofs.Each.{each_at, each_done}
use Rattle.ev_resident.proofs.names.VatNames.tell_gifts.Goals as goal

pub loop-index-preserved : goal.loop-index-preserved
loop-index-preserved c =
    each_at (gift_tells c.args.words.now c.args.self.now.naming.vat) c.args.gifts.now c.loop-index.index c.loop-index.told c.tell_gift.new.told _
    c.in_ok-tell_gift.ensures c.loop-index.invariant

pub returns : goal.returns
returns c =
    let le : length c.args.gifts.now ≤ c.loop-index.index = omega (arith, c.loop-index-test.false, c.len-index-end.ensures) in
    each_done (gift_tells c.args.words.now c.args.self.now.naming.vat) c.args.gifts.now c.loop-index.index c.loop-index.told _ le c.loop-index.invariant
