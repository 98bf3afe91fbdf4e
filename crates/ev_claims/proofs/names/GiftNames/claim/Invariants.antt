use Rattle.std.proofs.Common.{◌≡◌, drop}
use Rattle.ev_claims.specs.Gifts.{claiming}
use Rattle.ev_claims.proofs.names.GiftNames.claim.Given as goal

abbrev pub invariant-loop-gift : goal.invariant-loop-gift
invariant-loop-gift l = claiming (drop l.gift-index l.gifts) l.self ≡ claiming l.gifts l.fn.self
