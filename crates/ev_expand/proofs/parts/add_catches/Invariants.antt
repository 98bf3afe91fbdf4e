-- The catches so far are added.
use Rattle.std.proofs.Common.{◌≡◌, ◌++◌, drop}
use Rattle.ev_expand.specs.Marked.{catch_parts}
use Rattle.ev_expand.proofs.parts.add_catches.Given as goal

abbrev pub invariant-loop-pattern : goal.invariant-loop-pattern
invariant-loop-pattern l = l.found.items ++ catch_parts (drop l.pattern-index l.catches) ≡ l.initial.found.items ++ catch_parts l.catches
