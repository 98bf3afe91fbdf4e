-- The text of a run.
use Rattle.std.specs.Prelude.{ℕ, List, [], ◌∷◌, ◌++◌, map, codes, decimal}
use Rattle.def_event.specs.declared.event.Event.{Event as ShownEvent}
use Rattle.def_event.specs.Lines.{render, render_run}
use Rattle.def_machine.specs.Values.{Words}
use Rattle.def_machine.specs.State.{Stop, Fuel, Deep, Repeated, Astray}
use Rattle.def_run.specs.World.{Event, Run, Goes, Stopped, Script}
use Rattle.def_run.specs.Shown.{shown_event}
use Rattle.def_run.specs.Shown.{opened_shown}

-- the last line of a run that stopped in that step
unfoldable pub stop_line : Stop → ℕ → Words
stop_line Fuel k = codes "stop fuel " ++ decimal k
stop_line Deep k = codes "stop depth " ++ decimal k
stop_line (Repeated i j) k = codes "stop word " ++ decimal i ++ 32 ∷ decimal j
stop_line Astray k = codes "stop astray " ++ decimal k

unfoldable pub vat_names : Script → List Words
vat_names script = map (λ p. p.name) script.vats

-- the events of a run with those draws, each note that is carried with its frame behind it
unfoldable pub shown_events : List ℕ → List Event → List ShownEvent
shown_events draws [] = []
shown_events draws (e ∷ es) = shown_event draws e ++ shown_events draws es

unfoldable pub history_of : Run → List Event
history_of (Goes w) = w.history
history_of (Stopped c k w) = w.history

unfoldable pub draws_of : Run → List ℕ
draws_of (Goes w) = w.drawn
draws_of (Stopped c k w) = w.drawn

unfoldable pub stop_text : Run → Words
stop_text (Goes w) = []
stop_text (Stopped c k w) = stop_line c k ++ 10 ∷ []

-- the text of the run on a script
unfoldable pub text : Script → Run → Words
text script r = render_run (vat_names script) (shown_events (draws_of r) (history_of r)) ++ stop_text r

-- the text with the frames
unfoldable pub wire_text : Script → Run → Words
wire_text script r = render (vat_names script) (shown_events (draws_of r) (history_of r)) ++ stop_text r

-- opens each definition of this file, and of those below
unfoldable pub opened_text : Unit {0}
unfolding stop_line vat_names shown_events history_of draws_of stop_text text wire_text opened_shown
opened_text = tt
