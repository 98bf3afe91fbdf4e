-- Values are read again, outside notes.
use Rattle.std.proofs.Common.{◌≡◌, ◌++◌, ◌-◌, ℕ, true, false, cond, leb, Bool as Bools, List, [], ◌∷◌, length, refl}
use Rattle.std.specs.Prelude.{chars, decimal, take, Ok}
use Rattle.std.specs.List.{flat_map}
use Rattle.std.specs.Str.{encode_utf8_all}
use Rattle.ev_base.specs.declared.names.Name.{Name}
use Rattle.ev_base.specs.declared.names.Name.TheVariants.{Answer}
use Rattle.def_text.specs.Quoting.{escaped, quoted, shortened, shown_length}
use Rattle.def_event.specs.declared.shown.Shown.{Shown, Bool, Int, Char, Text, Broken, Prim, List as ListOf, Slot, Name as Named, Members'}
use Rattle.def_event.specs.Lines as lines
use Rattle.ev_trace_words.specs.Laws.{AreNames, FitsName}
use Rattle.ev_trace_words.specs.Texts.{shown_text}
use Rattle.ev_trace_words.specs.Values.{value}
use Rattle.law_trace.specs.Trace.Seen.{seen_text, seen_value}
use Rattle.law_trace.specs.Trace.Readable.{Below, IsName, IsValue}
use Rattle.law_trace.proofs.Trace.ValuesAgain.{list_again, named_again, slot_again}
use Rattle.law_trace.proofs.Trace.IntegersAgain.{integers_again}
use Rattle.law_trace.proofs.Trace.TextsAgain.{text_value_again}
use Rattle.law_trace.proofs.Trace.OthersAgain.{primitives_again, problem_again}
use Rattle.law_trace.proofs.Trace.CharactersAgain.{characters_again}
use Rattle.law_trace.proofs.Trace.TextsSeen.{seen_again}

pub fits : (names : List (List ℕ)) (x : Name) → IsName (Below names) x → FitsName (length names) x
fits names (Answer host m) h = (h.0, h.1.0, h.1.1)
fits names other h = h

-- a text begins with its quote, however long it is
by_quote : (names : List (List ℕ)) (t u front behind : List ℕ) (b : Bools) → AreNames names → shown_text (cond b (quoted t) (quoted front ++ behind)) ≡ Ok u → value names (cond b (quoted t) (quoted front ++ behind)) ≡ Ok (Text u)
by_quote names t u front behind true are e = text_value_again names (flat_map escaped t ++ 34 ∷ []) u are.lawful e
by_quote names t u front behind false are e = text_value_again names ((flat_map escaped front ++ 34 ∷ []) ++ behind) u are.lawful e

pub value_again : (names : List (List ℕ)) (x : Shown) → AreNames names → IsValue (Below names) x → value names (lines.value names x) ≡ Ok (seen_value x)
value_again names (Bool true) are h = refl
value_again names (Int z) are h = integers_again names z are h
value_again names (Char c) are h = characters_again names c are h
value_again names (Text t) are h =
    by_quote names t (seen_text t) (encode_utf8_all (take shown_length (chars t))) (43 ∷ decimal (length (chars t) - shown_length)) (leb (length (chars t)) shown_length) are (seen_again t h)
value_again names (Broken t) are h = problem_again names are.lawful (shortened t) (seen_text t) (seen_again t h)
value_again names (Prim n) are h = primitives_again names n h
value_again names (ListOf v n) are h = list_again names v n are h.0 h.1
value_again names (Slot v n) are h = slot_again names v n are h.0 h.1
value_again names (Named n) are h = named_again names n are (fits names n h)
value_again names (Members' shape row) are h = absurd h
value_again names other are h = refl
