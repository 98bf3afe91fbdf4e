-- The values so far and then the rest are all.
use Rattle.std.proofs.Common.{◌≡◌, drop}
use Rattle.ev_known.specs.Telling.{told_captures}
use Rattle.ev_known.proofs.facts.Facts.capture_all.Given as goal

abbrev pub invariant-loop-value : goal.invariant-loop-value
invariant-loop-value l = told_captures l.object l.self (drop l.value-index l.values) ≡ told_captures l.object l.fn.self l.values
