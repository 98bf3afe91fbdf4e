-- the rest decides
use Rattle.std.proofs.Common.{◌≡◌, drop}
use Rattle.ev_audit.specs.Views.{all_fit}
use Rattle.ev_audit.proofs.rules.all_fit.Given as goal

abbrev pub invariant-loop-name : goal.invariant-loop-name
invariant-loop-name l = all_fit l.rule (drop l.name-index l.names) ≡ all_fit l.rule l.names
