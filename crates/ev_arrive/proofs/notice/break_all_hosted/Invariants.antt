use Rattle.std.proofs.Common.{◌≡◌, drop}
use Rattle.ev_arrive.specs.Breaking.{break_hosted}
use Rattle.ev_arrive.specs.Noticing.{break_each}
use Rattle.ev_arrive.proofs.notice.break_all_hosted.Given as goal

-- the rest leaves what all of them leave
abbrev pub invariant-loop-name : goal.invariant-loop-name
invariant-loop-name l = break_each break_hosted (drop l.name-index l.names) l.host ≡ break_each break_hosted l.fn.names l.fn.host
