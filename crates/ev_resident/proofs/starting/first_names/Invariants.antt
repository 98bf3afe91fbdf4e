-- The roots so far are there, and then the rest.
use Rattle.std.proofs.Common.{◌≡◌, drop}
use Rattle.ev_resident.specs.Names.{names_first}
use Rattle.ev_resident.specs.Starting.{with_roots}
use Rattle.ev_resident.proofs.starting.first_names.Given as goal

abbrev pub invariant-loop-vat : goal.invariant-loop-vat
invariant-loop-vat l = with_roots (drop l.vat-index l.knows) l.names ≡ with_roots l.fn.knows (names_first l.fn.me l.fn.knows l.fn.count)
