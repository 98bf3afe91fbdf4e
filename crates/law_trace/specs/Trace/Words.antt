-- Any value that is printed is read again, and so are the words of a line.
use Rattle.std.specs.Prelude.{◌≡◌, ℕ, List, Ok}
use Rattle.def_event.specs.declared.shown.Shown.{Shown}
use Rattle.def_event.specs.declared.event.Event.{Event}
use Rattle.def_event.specs.Lines.{line_of, words}
use Rattle.def_event.specs.Lines as lines
use Rattle.ev_trace_words.specs.Laws.{AreNames}
use Rattle.ev_trace_words.specs.Words.{words_of}
use Rattle.ev_trace_words.specs.Values.{note_value, value}
use Rattle.law_trace.specs.Trace.Seen.{seen_value}
use Rattle.law_trace.specs.Trace.Readable.{Below, IsPassed, IsRead, IsValue}

-- a value that is printed is read as what is seen of it, outside notes and in a note
pub record ValuesAreReadAgain : Type 0 where
  pub outside : (names : List (List ℕ)) (x : Shown) → AreNames names → IsValue (Below names) x → value names (lines.value names x) ≡ Ok (seen_value x)
  pub inside : (names : List (List ℕ)) (height : ℕ) (x : Shown) → AreNames names → IsPassed (Below names) height x → note_value names height (lines.value names x) ≡ Ok (seen_value x)

-- the words of a line are read apart
abbrev pub WordsAreReadAgain : Type 0
WordsAreReadAgain = (names : List (List ℕ)) (e : Event) → AreNames names → IsRead (Below names) e → words_of (line_of names e) ≡ words names e
