-- Lines of events are read again.
use Rattle.std.specs.Prelude.{◌≡◌, ℕ, List, Ok, Err}
use Rattle.def_event.specs.declared.event.Event.{Event}
use Rattle.def_event.specs.declared.raw.RawLine.{RawLine}
use Rattle.def_event.specs.Lines.{raw_words, words}
use Rattle.ev_trace_words.specs.Laws.{AreNames}
use Rattle.ev_trace_lines.specs.Events.{event_of}
use Rattle.law_trace.specs.Trace.Seen.{seen}
use Rattle.law_trace.specs.Trace.Readable.{Below, IsByHand, IsRead}

-- an event whose line is printed is read as what is seen of it
abbrev pub EventsAreReadAgain : Type 0
EventsAreReadAgain = (names : List (List ℕ)) (e : Event) → AreNames names → IsRead (Below names) e → event_of names (words names e) ≡ Ok (seen e)

-- a line that says that a frame was put on a link by hand, or that one was malformed, breaks rule 43
abbrev pub FramesByHandAreRefused : Type 0
FramesByHandAreRefused = (names : List (List ℕ)) (line : RawLine) → AreNames names → IsByHand (Below names) line → event_of names (raw_words names line) ≡ Err 43
