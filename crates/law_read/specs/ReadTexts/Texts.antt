-- The text of a run that is printed is UTF-8, and its bytes are read again.
use Rattle.std.specs.Prelude.{◌≡◌, ℕ, ◌≤◌, true, List, [], ◌∷◌, ◌++◌, length, map, Some, None, Ok}
use Rattle.std.specs.Str.{IsUtf8}
use Rattle.def_event.specs.declared.event.Event.{Event}
use Rattle.def_event.specs.declared.event.Event.TheVariants.{End}
use Rattle.def_event.specs.Lines.{render}
use Rattle.law_text.specs.Text.Feeds.{AllOf, IsOneLine}
use Rattle.ev_trace_words.specs.Laws.{AreNames}
use Rattle.ev_trace_words.specs.Words.{words_of}
use Rattle.ev_trace.specs.Reading.{is_stop, read}
use Rattle.law_trace.specs.Trace.Placed.{numbered}
use Rattle.law_trace.specs.Trace.Readable.{Below, IsRead}
use Rattle.law_trace.specs.Trace.Seen.{seen}
use Rattle.law_trace.specs.Trace.Texts.{found}

-- the text of events is UTF-8
abbrev pub TextsAreUtf8 : Type 0
TextsAreUtf8 = (names : List (List ℕ)) (es : List Event) → AreNames names → AllOf (IsRead (Below names)) es → IsUtf8 (render names es)

-- Of at most 16 vats, the bytes of the text of a run that ends, and of one that stops with such a line, are read as what is seen of its events, each vat by the place of its name among those that are found.
pub record TextsAreRead : Type 0 where
  pub ended : (names : List (List ℕ)) (es : List Event) → AreNames names → length names ≤ 16 → AllOf (IsRead (Below names)) (es ++ End ∷ [])
      → read (render names (es ++ End ∷ [])) ≡ Ok (record { history = map seen (numbered names (es ++ End ∷ [])); names = found names (es ++ End ∷ []); stop = None })
  pub stopped : (names : List (List ℕ)) (es : List Event) (stop : List ℕ) → AreNames names → length names ≤ 16 → AllOf (IsRead (Below names)) es → IsUtf8 stop → IsOneLine stop → is_stop (words_of stop) ≡ true
      → read (render names es ++ (stop ++ 10 ∷ [])) ≡ Ok (record { history = map seen (numbered names es); names = found names es; stop = Some stop })
