-- The places of vats among the names that are found in lines.
use Rattle.std.specs.Prelude.{◌≡◌, ℕ, ◌≤◌, true, List, [], ◌∷◌, ◌++◌, length, map, unwrap_or, Some, None, Ok}
use Rattle.def_event.specs.declared.event.Event.{Event}
use Rattle.def_event.specs.declared.event.Event.TheVariants.{End}
use Rattle.def_event.specs.Lines.{render, vat}
use Rattle.ev_script.specs.Vats.{place_of}
use Rattle.law_text.specs.Text.Feeds.{AllOf, IsOneLine}
use Rattle.ev_trace_words.specs.Laws.{AreNames}
use Rattle.ev_trace_words.specs.Words.{words_of}
use Rattle.ev_trace.specs.Reading.{is_stop, read_text}
use Rattle.law_trace.specs.Trace.Seen.{seen}
use Rattle.law_trace.specs.Trace.Readable.{Below, IsRead}
use Rattle.law_trace.specs.Trace.Renamed.{event_to}
use Rattle.law_trace.specs.Trace.Texts.{Renumbers, found}

-- the number of a vat by where its name first stands in the lines
abbrev pub place_in : List (List ℕ) → List Event → ℕ → ℕ
place_in names es v = unwrap_or (place_of (found names es) (vat names v)) 0

-- Where no more than 16 are found, each vat of the events is found with that number.
abbrev pub VatsHavePlaces : Type 0
VatsHavePlaces = (names : List (List ℕ)) (es : List Event) → AreNames names → AllOf (IsRead (Below names)) es → length (found names es) ≤ 16 → Renumbers names (place_in names es) es

-- the events by these numbers
abbrev pub numbered : List (List ℕ) → List Event → List Event
numbered names es = map (event_to (place_in names es)) es

-- The text of a run that ends, and of one that stops with such a line, is read as what is seen of its events by these numbers.
pub record TextsAreNumbered : Type 0 where
  pub ended : (names : List (List ℕ)) (es : List Event) → AreNames names → AllOf (IsRead (Below names)) (es ++ End ∷ []) → length (found names (es ++ End ∷ [])) ≤ 16
      → read_text (render names (es ++ End ∷ [])) ≡ Ok (record { history = map seen (numbered names (es ++ End ∷ [])); names = found names (es ++ End ∷ []); stop = None })
  pub stopped : (names : List (List ℕ)) (es : List Event) (stop : List ℕ) → AreNames names → AllOf (IsRead (Below names)) es → length (found names es) ≤ 16 → IsOneLine stop → is_stop (words_of stop) ≡ true
      → read_text (render names es ++ (stop ++ 10 ∷ [])) ≡ Ok (record { history = map seen (numbered names es); names = found names es; stop = Some stop })
