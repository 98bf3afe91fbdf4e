-- the entries so far, and then those of the other steps, are the entries of all
use Rattle.std.proofs.Common.{◌≡◌, ◌++◌, drop}
use Rattle.ev_script.specs.Schedule.{written_out}
use Rattle.ev_script.proofs.schedule.push_steps.Given as goal

abbrev pub invariant-loop-step : goal.invariant-loop-step
invariant-loop-step l = l.out.items ++ written_out l.round (drop l.step-index l.steps) ≡ l.fn.out.items ++ written_out l.round l.steps
