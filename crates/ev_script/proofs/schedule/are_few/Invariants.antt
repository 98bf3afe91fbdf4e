-- how many more there may be, and how many those left are
use Rattle.std.proofs.Common.{◌≡◌, ◌≤◌, ◌+◌, length, drop}
use Rattle.ev_script.specs.Schedule.{written_out}
use Rattle.ev_script.specs.Script.{most_entries}
use Rattle.ev_script.proofs.schedule.are_few.Given as goal

abbrev pub invariant-loop-step : goal.invariant-loop-step
invariant-loop-step l =
    (l.left ≤ most_entries) × (length (written_out l.round (drop l.step-index l.steps)) + most_entries ≡ length (written_out l.round l.steps) + l.left)
