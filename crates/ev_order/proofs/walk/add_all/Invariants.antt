-- The first values have come.
use Rattle.std.proofs.Common.{◌≡◌, ◌++◌, map, take}
use Rattle.ev_order.specs.Chains.{IsChain, reference}
use Rattle.ev_order.proofs.walk.add_all.Given as goal

abbrev pub invariant-loop-value : goal.invariant-loop-value
invariant-loop-value l = IsChain l.chains × (l.chains.references ≡ l.initial.chains.references ++ map (reference l.vat) (take l.value-index l.values))
