-- The uses of a history are judged alike where its events are seen as a line shows them, and where its vats have other numbers.
use Rattle.std.specs.Prelude.{◌≡◌, ℕ, ◌≤◌, true, List, [], ◌∷◌, ◌++◌, length, map, filter, Ok}
use Rattle.def_event.specs.declared.event.Event.{Event}
use Rattle.def_event.specs.declared.event.Event.TheVariants.{End}
use Rattle.def_event.specs.Lines.{is_no_frame, render, render_run}
use Rattle.def_event.specs.declared.trace.Trace.{Trace}
use Rattle.law_text.specs.Text.Feeds.{AllOf, IsOneLine}
use Rattle.ev_trace_words.specs.Laws.{AreNames}
use Rattle.ev_trace_words.specs.Words.{words_of}
use Rattle.ev_trace.specs.Reading.{is_stop, read_text}
use Rattle.law_trace.specs.Trace.Seen.{seen}
use Rattle.law_trace.specs.Trace.Readable.{Below, IsRead}
use Rattle.law_trace.specs.Trace.Renamed.{event_to}
use Rattle.law_trace.specs.Trace.Texts.{found}
use Rattle.law_trace.specs.UsesSeen.Alike.{UsesAreSame, HoldAlike}

-- of any events, with texts as a line shows them
abbrev pub UsesOfWhatIsSeen : Type 0
UsesOfWhatIsSeen = (es : List Event) → UsesAreSame es (map seen es)

-- of any events, with those that show no frame
abbrev pub UsesWithoutFrames : Type 0
UsesWithoutFrames = (es : List Event) → HoldAlike es (filter is_no_frame es)

-- of any events, where no two vats have one number
abbrev pub UsesOfRenumbered : Type 0
UsesOfRenumbered = (to : ℕ → ℕ) → ((v w : ℕ) → to v ≡ to w → v ≡ w) → (es : List Event) → UsesAreSame es (map (event_to to) es)

-- What is read of the text of a run that ends, and of one that stops with such a line, is judged as its events.
pub record UsesAreReadAgain : Type 0 where
  pub ended : (names : List (List ℕ)) (es : List Event) → AreNames names → AllOf (IsRead (Below names)) (es ++ End ∷ []) → length (found names (es ++ End ∷ [])) ≤ 16
      → (trace : Trace) × (read_text (render names (es ++ End ∷ [])) ≡ Ok trace) × UsesAreSame (es ++ End ∷ []) trace.history
  pub stopped : (names : List (List ℕ)) (es : List Event) (stop : List ℕ) → AreNames names → AllOf (IsRead (Below names)) es → length (found names es) ≤ 16 → IsOneLine stop → is_stop (words_of stop) ≡ true
      → (trace : Trace) × (read_text (render names es ++ (stop ++ 10 ∷ [])) ≡ Ok trace) × UsesAreSame es trace.history

-- So is what is read of the text that is printed of a history with frames, of which a text has none.
pub record UsesOfRunsAreReadAgain : Type 0 where
  pub ended : (names : List (List ℕ)) (es fs : List Event) → filter is_no_frame es ≡ fs ++ End ∷ [] → AreNames names → AllOf (IsRead (Below names)) (filter is_no_frame es) → length (found names (filter is_no_frame es)) ≤ 16
      → (trace : Trace) × (read_text (render_run names es) ≡ Ok trace) × HoldAlike es trace.history
  pub stopped : (names : List (List ℕ)) (es : List Event) (stop : List ℕ) → AreNames names → AllOf (IsRead (Below names)) (filter is_no_frame es) → length (found names (filter is_no_frame es)) ≤ 16 → IsOneLine stop → is_stop (words_of stop) ≡ true
      → (trace : Trace) × (read_text (render_run names es ++ (stop ++ 10 ∷ [])) ≡ Ok trace) × HoldAlike es trace.history
