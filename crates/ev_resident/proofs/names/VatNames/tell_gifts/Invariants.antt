use Rattle.std.proofs.Common.{◌≡◌, drop}
use Rattle.ev_resident.specs.Names.{each_tells, gift_tells}
use Rattle.ev_resident.proofs.names.VatNames.tell_gifts.Given as goal

-- the gifts so far, and then the rest, tell what all tell
abbrev pub invariant-loop-index : goal.invariant-loop-index
invariant-loop-index l =
    each_tells (gift_tells l.words l.self.naming.vat) (drop l.index l.gifts) l.told ≡ each_tells (gift_tells l.words l.self.naming.vat) (drop l.self.gifts l.gifts) l.fn.told
