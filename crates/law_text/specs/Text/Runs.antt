-- The texts of runs.
use Rattle.std.specs.Prelude.{◌≡◌, List, filter}
use Rattle.def_event.specs.declared.event.Event.{Event}
use Rattle.def_event.specs.Lines.{is_no_frame}
use Rattle.def_run.specs.World.{Script, Run}
use Rattle.def_run.specs.Text.{vat_names, shown_events, history_of, draws_of, stop_text, text, wire_text}
use Rattle.law_text.specs.Text.Feeds.{AllOf}
use Rattle.law_text.specs.Text.Values.{AreVats}
use Rattle.law_text.specs.Text.Parts.{IsEventOf, OneForOne, EventsAlike}

-- the events of which a run's text has lines, and its frames
abbrev pub events_of : Run → List Event
events_of r = shown_events (draws_of r) (history_of r)

-- Two runs of scripts with the same vats that have one text have histories that are alike, event by event, and both go to their ends or stop by one line. Without frames it is said of all events but the frames.
abbrev pub TextsTellRuns : Type 0
TextsTellRuns = (script other : Script) → vat_names script ≡ vat_names other → AreVats (vat_names script) → (r q : Run) → AllOf (IsEventOf (vat_names script)) (events_of r) → AllOf (IsEventOf (vat_names script)) (events_of q)
    → (wire_text script r ≡ wire_text other q → OneForOne EventsAlike (events_of r) (events_of q) × (stop_text r ≡ stop_text q))
    × (text script r ≡ text other q → OneForOne EventsAlike (filter is_no_frame (events_of r)) (filter is_no_frame (events_of q)) × (stop_text r ≡ stop_text q))
