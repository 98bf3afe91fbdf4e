-- The text of a run is read again.
use Rattle.std.specs.Prelude.{◌≡◌, ℕ, ◌≤◌, true, List, [], ◌∷◌, ◌++◌, length, map, Some, None, Ok}
use Rattle.def_event.specs.declared.event.Event.{Event}
use Rattle.def_event.specs.declared.event.Event.TheVariants.{End}
use Rattle.def_event.specs.Lines.{line_of, render, vat, words}
use Rattle.ev_text.specs.Lines.{lines}
use Rattle.ev_script.specs.Vats.{place_of}
use Rattle.law_text.specs.Text.Feeds.{AllOf, IsOneLine}
use Rattle.ev_trace_words.specs.Laws.{AreNames}
use Rattle.ev_trace_words.specs.Words.{words_of}
use Rattle.ev_trace.specs.Naming.{names_in}
use Rattle.ev_trace.specs.Reading.{events_of, is_stop, read_text}
use Rattle.law_trace.specs.Trace.Seen.{seen}
use Rattle.law_trace.specs.Trace.Readable.{Below, IsRead}
use Rattle.law_trace.specs.Trace.Renamed.{event_to}

-- A text is cut into its lines, and these, by the names of the vats, are read as what is seen of the events.
abbrev pub HistoriesAreReadAgain : Type 0
HistoriesAreReadAgain = (names : List (List ℕ)) (es : List Event) → AreNames names → AllOf (IsRead (Below names)) es
    → (lines (render names es) ≡ Some (map (line_of names) es)) × (events_of names (map words_of (map (line_of names) es)) ≡ Ok (map seen es))

-- the names of vats in the lines of events, in the order in which they first stand there
abbrev pub found : List (List ℕ) → List Event → List (List ℕ)
found names es = names_in (map (words names) es)

-- No more than 16 are found, and each vat of the events is found with its other number.
pub record Renumbers (names : List (List ℕ)) (to : ℕ → ℕ) (es : List Event) : Type 0 where
  pub few : length (found names es) ≤ 16
  pub placed : AllOf (IsRead (λ v. place_of (found names es) (vat names v) ≡ Some (to v))) es

-- The text of a run that ends, and of one that stops with such a line: a reader numbers the vats by where they are found.
pub record TextsAreReadAgain : Type 0 where
  pub ended : (names : List (List ℕ)) (to : ℕ → ℕ) (es : List Event) → Renumbers names to (es ++ End ∷ [])
      → read_text (render names (es ++ End ∷ [])) ≡ Ok (record { history = map seen (map (event_to to) (es ++ End ∷ [])); names = found names (es ++ End ∷ []); stop = None })
  pub stopped : (names : List (List ℕ)) (to : ℕ → ℕ) (es : List Event) (stop : List ℕ) → Renumbers names to es → IsOneLine stop → is_stop (words_of stop) ≡ true
      → read_text (render names es ++ (stop ++ 10 ∷ [])) ≡ Ok (record { history = map seen (map (event_to to) es); names = found names es; stop = Some stop })
