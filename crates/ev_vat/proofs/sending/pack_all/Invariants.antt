use Rattle.std.proofs.Common.{◌≡◌, drop, map, take}
use Rattle.ev_vat.specs.Sending.{AllSpelled, packed, sending_of}
use Rattle.ev_wire.specs.Putting.{addressed}
use Rattle.ev_vat.proofs.sending.pack_all.Given as goal

-- so many are frames, and all have a spelling if the rest do
abbrev pub invariant-loop-one : goal.invariant-loop-one
invariant-loop-one l = record {
  frames : map sending_of l.out.items ≡ map packed (map addressed (take l.one-index l.outgoing));
  fits : AllSpelled (map addressed (drop l.one-index l.outgoing)) → AllSpelled (map addressed l.outgoing);
}
