-- the names of the safe scope, and of the vats so far
use Rattle.std.proofs.Common.{◌≡◌, ◌++◌, map, take}
use Rattle.ev_top.specs.Programs.{name_of, safe_names}
use Rattle.ev_top.proofs.given.names_for.Given as goal

abbrev pub invariant-loop-known : goal.invariant-loop-known
invariant-loop-known l = l.names ≡ safe_names ++ map (name_of l.vats) (take l.known-index l.vat.knows)
