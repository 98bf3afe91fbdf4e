use Rattle.std.proofs.Common.{◌≡◌, drop}
use Rattle.ev_arrive.specs.Breaking.{break_at}
use Rattle.ev_arrive.specs.Noticing.{break_each}
use Rattle.ev_arrive.proofs.notice.break_all.Given as goal

-- the rest leaves what all of them leave
abbrev pub invariant-loop-name : goal.invariant-loop-name
invariant-loop-name l = break_each break_at (drop l.name-index l.names) l.host ≡ break_each break_at l.fn.names l.fn.host
