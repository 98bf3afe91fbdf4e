-- The values so far and then the rest are all.
use Rattle.std.proofs.Common.{◌≡◌, drop}
use Rattle.ev_known.specs.Telling.{told_values}
use Rattle.ev_known.proofs.facts.Facts.give_all.Given as goal

abbrev pub invariant-loop-value : goal.invariant-loop-value
invariant-loop-value l = told_values l.activation l.self (drop l.value-index l.values) ≡ told_values l.activation l.fn.self l.values
