use Rattle.std.proofs.Common.{◌≡◌, drop}
use Rattle.ev_claims.specs.Gifts.{making}
use Rattle.ev_claims.proofs.names.GiftNames.make.Given as goal

abbrev pub invariant-loop-gift : goal.invariant-loop-gift
invariant-loop-gift l = making (drop l.gift-index l.gifts) l.self ≡ making l.gifts l.fn.self
