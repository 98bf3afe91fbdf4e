-- What the summary of a run tells, by how it ended.
use Rattle.std.specs.Prelude.{ℕ, List}
use Rattle.def_event.specs.declared.event.Event.{Event as ShownEvent}
use Rattle.def_machine.specs.State.{Fuel, Deep, Repeated, Astray}
use Rattle.def_run.specs.Text.{stop_line}
use Rattle.ev_summary.specs.Summary.{summary}
use Rattle.ev_world.specs.declared.run.RunEnd.{RunEnd}
use Rattle.ev_world.specs.declared.run.RunEnd.TheVariants as end
use Rattle.ev_io.specs.Words.{line}

-- what is told in the summary of a run of so many steps that ended so, with these events
abbrev pub summed_by : List ShownEvent → ℕ → RunEnd → List ℕ
summed_by events steps end.Done = summary events steps
summed_by events steps (end.FuelSpent step) = line (stop_line Fuel step)
summed_by events steps (end.TooDeep step) = line (stop_line Deep step)
summed_by events steps (end.WordRepeated first second) = line (stop_line (Repeated first second) 0)
summed_by events steps (end.Astray step) = line (stop_line Astray step)
