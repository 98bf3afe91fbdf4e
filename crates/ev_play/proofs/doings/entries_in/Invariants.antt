-- the entries so far
use Rattle.std.proofs.Common.{◌≡◌, take}
use Rattle.ev_play.specs.Doings.{entries_in}
use Rattle.ev_play.proofs.doings.entries_in.Given as goal

abbrev pub invariant-loop-doing : goal.invariant-loop-doing
invariant-loop-doing l = l.entries ≡ entries_in (take l.doing-index l.doings)
