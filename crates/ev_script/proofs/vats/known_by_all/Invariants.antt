-- the vats so far, and then those of the others, are those of all
use Rattle.std.proofs.Common.{◌≡◌, drop}
use Rattle.ev_script.specs.Vats.{known_from}
use Rattle.ev_script.proofs.EachLemmas.{done_and}
use Rattle.ev_script.proofs.vats.known_by_all.Given as goal

abbrev pub invariant-loop-vat : goal.invariant-loop-vat
invariant-loop-vat l = (l.place ≡ l.vat-index) × (done_and l.scripts (known_from l.names l.vat-index (drop l.vat-index l.vats)) ≡ known_from l.names 0 l.vats)
