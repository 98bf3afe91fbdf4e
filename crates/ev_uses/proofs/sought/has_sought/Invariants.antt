-- Those so far stand there.
use Rattle.std.proofs.Common.{◌≡◌, drop}
use Rattle.ev_uses.specs.Sought.{has_sought}
use Rattle.ev_uses.proofs.sought.has_sought.Given as goal

abbrev pub invariant-loop-other : goal.invariant-loop-other
invariant-loop-other l = has_sought l.sought l.labels (drop l.other-index l.others) ≡ has_sought l.sought l.labels l.others
