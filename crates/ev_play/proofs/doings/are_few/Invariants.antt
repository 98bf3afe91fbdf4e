-- how many more there may be, and how many those left are
use Rattle.std.proofs.Common.{◌≡◌, ◌≤◌, ◌+◌, length, drop}
use Rattle.ev_script.specs.Script.{most_entries}
use Rattle.ev_play.specs.Doings.{done_by_all}
use Rattle.ev_play.proofs.doings.are_few.Given as goal

abbrev pub invariant-loop-step : goal.invariant-loop-step
invariant-loop-step l =
    (l.left ≤ most_entries) × (length (done_by_all l.round (drop l.step-index l.steps)) + most_entries ≡ length (done_by_all l.round l.steps) + l.left)
