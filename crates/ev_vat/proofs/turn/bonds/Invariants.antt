use Rattle.std.proofs.Common.{◌≡◌, ◌+◌, ◌++◌, drop}
use Rattle.ev_vat.specs.Turn.{bonds_from}
use Rattle.ev_vat.proofs.turn.bonds.Given as goal

-- those so far, and then those of the other nouns, are those of all
abbrev pub invariant-loop-index : goal.invariant-loop-index
invariant-loop-index l = l.bonds.items ++ bonds_from (1 + l.index) (drop l.index l.nouns) ≡ bonds_from 1 l.nouns
