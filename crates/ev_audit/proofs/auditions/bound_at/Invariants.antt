-- the rest decides
use Rattle.std.proofs.Common.{◌≡◌, drop}
use Rattle.ev_audit.specs.Views.{bound_at}
use Rattle.ev_audit.proofs.auditions.bound_at.Given as goal

abbrev pub invariant-loop-name : goal.invariant-loop-name
invariant-loop-name l = bound_at (drop l.name-index l.names) l.noun ≡ bound_at l.names l.noun
