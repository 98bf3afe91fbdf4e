-- The summary of the machine's run on a script.
use Rattle.std.specs.Prelude.{ℕ, ◌+◌, List, length, filter}
use Rattle.def_event.specs.Lines.{is_no_frame}
use Rattle.def_event.specs.declared.event.Event.{Event as ShownEvent}
use Rattle.def_run.specs.World as machine
use Rattle.def_run.specs.World.{Goes, Stopped, run}
use Rattle.def_run.specs.Text.{draws_of, history_of, shown_events, stop_text}
use Rattle.ev_summary.specs.Summary.{summary}

-- the events of a run of which its text has a line each
abbrev pub lines_of : machine.Run → List ShownEvent
lines_of r = filter is_no_frame (shown_events (draws_of r) (history_of r))

-- the steps of a run that goes to its end: an opening turn of each vat, and the entries of the schedule
abbrev pub steps_of : machine.Script → ℕ
steps_of script = length script.vats + length script.schedule

-- the five lines of a run that goes to its end, or the line alone that tells where one stopped
abbrev pub summary_by : machine.Script → machine.Run → List ℕ
summary_by script (Goes w) = summary (lines_of (Goes w)) (steps_of script)
summary_by script (Stopped stop step w) = stop_text (Stopped stop step w)

-- the same of the machine's run on a script
abbrev pub summary_of : machine.Script → List ℕ
summary_of script = summary_by script (run script)
