use Rattle.std.proofs.Common.{◌≡◌, [], ◌∷◌, take}
use Rattle.ev_vat.specs.Rooted.{each_once, root_of}
use Rattle.ev_vat.proofs.vat.tell_root.Given as goal

abbrev pub invariant-loop-vat : goal.invariant-loop-vat
invariant-loop-vat l = l.refs ≡ record l.fn.refs { known = root_of l.fn.refs.me (each_once (take l.vat-index l.known_by)) ∷ [] }
