-- A history that is in order is so where its events are seen as a line shows them, without frames, and where its vats have other numbers.
use Rattle.std.specs.Prelude.{◌≡◌, ℕ, ◌≤◌, true, List, [], ◌∷◌, ◌++◌, length, map, filter, Ok}
use Rattle.def_event.specs.declared.event.Event.{Event}
use Rattle.def_event.specs.Lines.{is_no_frame, render}
use Rattle.def_event.specs.Order.{IsOrdered}
use Rattle.def_event.specs.declared.trace.Trace.{Trace}
use Rattle.law_text.specs.Text.Feeds.{AllOf, IsOneLine}
use Rattle.ev_trace_words.specs.Laws.{AreNames}
use Rattle.ev_trace_words.specs.Words.{words_of}
use Rattle.ev_trace.specs.Reading.{is_stop, read_text}
use Rattle.law_trace.specs.Trace.Seen.{seen}
use Rattle.law_trace.specs.Trace.Readable.{Below, IsRead}
use Rattle.law_trace.specs.Trace.Renamed.{event_to}
use Rattle.law_trace.specs.Trace.Texts.{found}

-- of any events, with texts as a line shows them
abbrev pub OrderOfWhatIsSeen : Type 0
OrderOfWhatIsSeen = (es : List Event) → IsOrdered es → IsOrdered (map seen es)

-- of any events, with those that show no frame
abbrev pub OrderWithoutFrames : Type 0
OrderWithoutFrames = (es : List Event) → IsOrdered es → IsOrdered (filter is_no_frame es)

-- of any events, where no two vats have one number
abbrev pub OrderOfRenumbered : Type 0
OrderOfRenumbered = (to : ℕ → ℕ) → ((v w : ℕ) → to v ≡ to w → v ≡ w) → (es : List Event) → IsOrdered es → IsOrdered (map (event_to to) es)

-- What is read of the text that is printed of a history with frames, of which a text has none, with such a line behind it.
abbrev pub OrderIsReadAgain : Type 0
OrderIsReadAgain = (names : List (List ℕ)) (es : List Event) (stop : List ℕ) → AreNames names → AllOf (IsRead (Below names)) (filter is_no_frame es) → length (found names (filter is_no_frame es)) ≤ 16 → IsOneLine stop → is_stop (words_of stop) ≡ true
    → IsOrdered es → (trace : Trace) × (read_text (render names (filter is_no_frame es) ++ (stop ++ 10 ∷ [])) ≡ Ok trace) × IsOrdered trace.history
