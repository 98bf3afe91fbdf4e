-- what the steps so far do
use Rattle.std.proofs.Common.{◌≡◌}
use Rattle.ev_play.specs.Doings.{done_by_all}
use Rattle.ev_play.proofs.doings.done_by_all.Given as goal

abbrev pub invariant-loop-step : goal.invariant-loop-step
invariant-loop-step l = l.doings.items ≡ done_by_all l.round l.yielded
