-- The texts of runs are read again.
use Rattle.std.specs.Prelude.{◌≡◌, ℕ, ◌+◌, ◌<◌, ◌≤◌, ◌^◌, List, filter, length, map, Option, Some, None, Ok}
use Rattle.def_event.specs.declared.event.Event.{Event}
use Rattle.def_event.specs.Lines.{is_no_frame}
use Rattle.def_machine.specs.State.{Stop, Fuel, Deep, Repeated, Astray}
use Rattle.def_run.specs.World.{Script, World, Run, Goes, Stopped, run}
use Rattle.def_run.specs.Text.{vat_names, stop_line, text}
use Rattle.def_event.specs.declared.trace.Trace.{Trace}
use Rattle.law_text.specs.Text.Feeds.{AllOf}
use Rattle.law_text.specs.Text.Runs.{events_of}
use Rattle.law_text.specs.RunTexts.Laws.{IsOfVats, IsBounded}
use Rattle.ev_trace_words.specs.Laws.{AreNames}
use Rattle.ev_trace.specs.Reading.{read}
use Rattle.law_trace.specs.Trace.Placed.{numbered}
use Rattle.law_trace.specs.Trace.Readable.{Below, IsRead}
use Rattle.law_trace.specs.Trace.Seen.{seen}
use Rattle.law_trace.specs.Trace.Texts.{found}

-- the events of which the text of a run has lines
abbrev pub shown_of : Run → List Event
shown_of r = filter is_no_frame (events_of r)

-- the line of its stop
abbrev pub stop_of : Run → Option (List ℕ)
stop_of (Goes w) = None
stop_of (Stopped c k w) = Some (stop_line c k)

-- what its text is read as: what is seen of its events, each vat with the place of its name among those that are found
abbrev pub trace_of : Script → Run → Trace
trace_of script r = record { history = map seen (numbered (vat_names script) (shown_of r)); names = found (vat_names script) (shown_of r); stop = stop_of r }

-- Law: the line of each event of a run is read again.
abbrev pub EventsOfRunsAreRead : Type 0
EventsOfRunsAreRead = (script : Script) → IsOfVats script → IsBounded (run script) → AllOf (IsRead (Below (vat_names script))) (shown_of (run script))

-- a stop for a word that was drawn before tells of words by numbers of 64 bits
abbrev pub TellsLow : Stop → Type 0
TellsLow (Repeated i j) = (i < 2 ^ 64) × (j < 2 ^ 64)
TellsLow Fuel = Unit {0}
TellsLow Deep = Unit {0}
TellsLow Astray = Unit {0}

abbrev pub TellsLowOf : Run → Type 0
TellsLowOf (Goes w) = Unit {0}
TellsLowOf (Stopped c k w) = TellsLow c

-- it does not stop as astray
abbrev pub IsNotAstray : Run → Type 0
IsNotAstray r = (c : Stop) (k : ℕ) (w : World) → r ≡ Stopped c k w → c ≡ Astray → ⊥

-- Law: the text of a run is read again.
abbrev pub TextsOfRunsAreRead : Type 0
TextsOfRunsAreRead = (script : Script) → AreNames (vat_names script) → length script.vats ≤ 16 → length script.vats + length script.schedule < 2 ^ 64 → IsOfVats script → IsBounded (run script) → IsNotAstray (run script) → TellsLowOf (run script)
    → read (text script (run script)) ≡ Ok (trace_of script (run script))
