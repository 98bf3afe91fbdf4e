-- the names of the vats so far
use Rattle.std.proofs.Common.{◌≡◌, take}
use Rattle.ev_script.specs.Vats.{names_of}
use Rattle.ev_script.proofs.vats.names_of.Given as goal

abbrev pub invariant-loop-vat : goal.invariant-loop-vat
invariant-loop-vat l = l.names ≡ names_of (take l.vat-index l.vats)
