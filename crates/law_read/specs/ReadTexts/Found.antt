-- Nothing is found in lines but the names of vats.
use Rattle.std.specs.Prelude.{ℕ, ◌≤◌, List, length}
use Rattle.def_event.specs.declared.event.Event.{Event}
use Rattle.def_event.specs.Lines.{words}
use Rattle.ev_trace_words.specs.Laws.{AreNames}
use Rattle.ev_trace.specs.Naming.{line_vats}
use Rattle.law_text.specs.Text.Feeds.{AllOf}
use Rattle.law_trace.specs.Trace.Found.{Stands}
use Rattle.law_trace.specs.Trace.Readable.{Below, IsRead}
use Rattle.law_trace.specs.Trace.Texts.{found}

-- each name that is found in the line of an event is that of a vat
abbrev pub LinesNameVats : Type 0
LinesNameVats = (names : List (List ℕ)) (e : Event) → AreNames names → IsRead (Below names) e → AllOf (λ n. Stands n names) (line_vats (words names e))

-- so is each that is found in the lines of events, and there are no more than vats
abbrev pub OnlyVatsAreFound : Type 0
OnlyVatsAreFound = (names : List (List ℕ)) (es : List Event) → AreNames names → AllOf (IsRead (Below names)) es → AllOf (λ n. Stands n names) (found names es) × (length (found names es) ≤ length names)
