use Rattle.std.proofs.Common.{◌≡◌, ◌++◌, map, take}
use Rattle.ev_refs.specs.References.{unsettled_of}
use Rattle.ev_vat.proofs.vat.learn_roots.Given as goal

abbrev pub invariant-loop-vat : goal.invariant-loop-vat
invariant-loop-vat l = l.refs ≡ record l.fn.refs { known = l.fn.refs.known ++ map unsettled_of (take l.vat-index l.knows) }
