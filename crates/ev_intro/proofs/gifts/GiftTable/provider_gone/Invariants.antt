use Rattle.std.proofs.Common.{◌≡◌, take}
use Rattle.ev_intro.specs.Gift.{unopened}
use Rattle.ev_intro.proofs.gifts.GiftTable.provider_gone.Given as goal

abbrev pub invariant-loop-index : goal.invariant-loop-index
invariant-loop-index l = l.promises ≡ unopened l.provider (take l.index l.self)
