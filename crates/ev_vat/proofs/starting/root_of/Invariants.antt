-- The vat is not among those so far.
use Rattle.std.proofs.Common.{◌≡◌, ◌+◌, drop}
use Rattle.ev_vat.specs.Starting.{root_in}
use Rattle.ev_vat.proofs.starting.root_of.Given as goal

abbrev pub invariant-loop-index : goal.invariant-loop-index
invariant-loop-index l = root_in (l.index + 1) l.vat (drop l.index l.knows) ≡ root_in 1 l.vat l.knows
