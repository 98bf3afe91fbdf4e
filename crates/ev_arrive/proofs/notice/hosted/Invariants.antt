use Rattle.std.proofs.Common.{◌≡◌, ◌++◌, drop}
use Rattle.ev_arrive.specs.Noticing.{hosted}
use Rattle.ev_arrive.proofs.notice.hosted.Given as goal

abbrev pub invariant-loop-name : goal.invariant-loop-name
invariant-loop-name l = l.names ++ hosted l.fn.peer l.name (drop l.name l.fn.refs.known) ≡ hosted l.fn.peer 0 l.fn.refs.known
