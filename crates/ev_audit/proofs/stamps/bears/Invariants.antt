-- the rest decides
use Rattle.std.proofs.Common.{◌≡◌, drop}
use Rattle.ev_audit.specs.Stamps.{bears}
use Rattle.ev_audit.proofs.stamps.bears.Given as goal

abbrev pub invariant-loop-stamp : goal.invariant-loop-stamp
invariant-loop-stamp l = bears l.auditor (drop l.stamp-index l.stamps) ≡ bears l.auditor l.stamps
