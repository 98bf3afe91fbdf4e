-- The bytes of the text of a run are read again.
use Rattle.std.proofs.Common.{◌≡◌, ◌≤◌, ◌++◌, ℕ, cond, List, [], ◌∷◌, Option, Some, None, length, refl, ◌∙◌, ap, arith}
use Rattle.std.specs.Str.{IsUtf8, is_utf8}
use Rattle.std.proofs.lemmas.Str.{IsUtf8-append, IsUtf8-nil, is_utf8-from_IsUtf8}
use Rattle.def_event.specs.declared.event.Event.{Event}
use Rattle.def_event.specs.declared.event.Event.TheVariants.{End}
use Rattle.def_event.specs.Lines.{line_of, render, words}
use Rattle.ev_script.specs.Script.{rule}
use Rattle.law_text.specs.Text.Feeds.{AllOf}
use Rattle.ev_trace_words.specs.Laws.{AreNames}
use Rattle.ev_trace.specs.Reading.{read, read_text}
use Rattle.law_trace.specs.Trace.Readable.{Below, IsRead}
use Rattle.law_trace.specs.Trace.Texts.{found}
use Rattle.law_trace.proofs.Trace.LinesAgain.{goes}
use Rattle.law_trace.proofs.Trace.Placed.{texts_numbered}
use Rattle.law_read.specs.ReadTexts.Texts.{TextsAreRead, TextsAreUtf8}
use Rattle.law_read.proofs.ReadTexts.FewFound.{only_vats}
use Rattle.law_read.proofs.ReadTexts.LinesTell.{line}
use Rattle.law_read.proofs.ReadTexts.Tells.{spaced_utf8}
use Rattle.law_read.proofs.ReadTexts.Utf8.{ascii}

-- ---- the text

feed : (line : List ℕ) → IsUtf8 line → IsUtf8 (line ++ 10 ∷ [])
feed line u = IsUtf8-append line (10 ∷ []) u (ascii (10 ∷ []) refl)

pub texts_utf8 : TextsAreUtf8
texts_utf8 names [] are h = IsUtf8-nil
texts_utf8 names (e ∷ es) are h =
    IsUtf8-append (line_of names e ++ 10 ∷ []) (render names es) (feed (line_of names e) (spaced_utf8 names are (words names e) (line names are e h.0).0)) (texts_utf8 names es are h.1)

-- ---- reading

as_text : (text : List ℕ) → IsUtf8 text → read text ≡ read_text text
as_text text u = goes (rule 41 (cond {A = Option (List ℕ)} (is_utf8 text) (Some text) None)) text read_text (ap (λ t. rule 41 (cond {A = Option (List ℕ)} t (Some text) None)) (is_utf8-from_IsUtf8 text u))

few : (names : List (List ℕ)) (es : List Event) → AreNames names → length names ≤ 16 → AllOf (IsRead (Below names)) es → length (found names es) ≤ 16
few names es are h k = let l = (only_vats names es are k).1 in omega (arith, l, h)

pub texts_read : TextsAreRead
texts_read = record {
  ended = λ names es are h k. let all = es ++ End ∷ [] in as_text (render names all) (texts_utf8 names all are k) ∙ texts_numbered.ended names es are k (few names all are h k);
  stopped = λ names es stop are h k u one is.
      as_text (render names es ++ (stop ++ 10 ∷ [])) (IsUtf8-append (render names es) (stop ++ 10 ∷ []) (texts_utf8 names es are k) (feed stop u)) ∙ texts_numbered.stopped names es stop are k (few names es are h k) one is;
}
