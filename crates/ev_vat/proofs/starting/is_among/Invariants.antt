-- The vat is not among those so far.
use Rattle.std.proofs.Common.{◌≡◌, drop}
use Rattle.def_machine.specs.State.{is_in}
use Rattle.ev_vat.proofs.starting.is_among.Given as goal

abbrev pub invariant-loop-other : goal.invariant-loop-other
invariant-loop-other l = is_in l.vat (drop l.other-index l.vats) ≡ is_in l.vat l.vats
