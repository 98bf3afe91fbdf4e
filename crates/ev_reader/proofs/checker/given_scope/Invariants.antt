-- the names so far are bound
use Rattle.std.proofs.Common.{◌≡◌, [], drop}
use Rattle.ev_reader.specs.Scopes.{with_given}
use Rattle.ev_reader.proofs.checker.given_scope.Given as goal

abbrev pub invariant-loop-name : goal.invariant-loop-name
invariant-loop-name l = with_given (drop l.name-index l.given) l.scope ≡ with_given l.given []
