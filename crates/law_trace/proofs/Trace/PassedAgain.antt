-- Values in notes are read again.
use Rattle.std.proofs.Common.{◌≡◌, ◌++◌, ◌-◌, ℕ, zero, suc, Bool as Bools, true, false, cond, leb, List, [], ◌∷◌, Option, Some, None, length, refl, sym, ◌∙◌, ap, arith}
use Rattle.std.specs.Prelude.{ℤ, pos, negsuc, chars, decimal, take, Result, Ok, Err}
use Rattle.std.specs.List.{flat_map}
use Rattle.std.specs.Path.{rsplit_once}
use Rattle.std.specs.Str.{encode_utf8_all}
use Rattle.std.specs.Fmt.{signed_decimal}
use Rattle.def_text.specs.Quoting.{quoted, shown_length}
use Rattle.def_event.specs.declared.shown.Shown.{Shown, Null, Bool, Int, Char, Text, Broken, Prim, List as ListOf, Slot, Name as Named, Members', Row_of-Shown, end_of-Shown, more_of-Shown}
use Rattle.def_event.specs.Lines.{member_values, members, spaced}
use Rattle.def_event.specs.Lines as lines
use Rattle.ev_script.specs.Script.{◌>>=◌}
use Rattle.law_text.specs.Text.Feeds.{AllOf}
use Rattle.law_text.specs.Text.Words.{IsWord}
use Rattle.law_text.proofs.Text.Told.{member_words}
use Rattle.ev_trace_words.specs.Laws.{AreNames}
use Rattle.ev_trace_words.specs.Parts.{behind_mark, otherwise}
use Rattle.ev_trace_words.specs.Values.{all_of, bracketed, before_last, first_read, made_at, note_list, note_value, placed, simple, unclosed, value}
use Rattle.ev_trace_words.specs.Values as read
use Rattle.ev_trace_words.specs.Words.{words_of}
use Rattle.law_trace.specs.Trace.Laws.{IsWide}
use Rattle.law_trace.specs.Trace.Seen.{seen_members, seen_value}
use Rattle.law_trace.specs.Trace.Readable.{AreMembers, Below, IsPassed, IsSimple, IsValue}
use Rattle.law_trace.specs.Trace.Words.{ValuesAreReadAgain}
use Rattle.law_trace.proofs.Trace.ValuesAgain.{begins_so, no_front, starts, starts_not}
use Rattle.law_trace.proofs.Trace.IntegersAgain.{digits_alone, no_mark, wide}
use Rattle.law_trace.proofs.Trace.TextsSeen.{all_more, behind_again, last_split}
use Rattle.law_trace.proofs.Trace.AnyValue.{fits, value_again}
use Rattle.law_trace.proofs.Trace.WordsAgain.{one_or_more, ordinary_names, words_back}

-- ---- what is no list and no slot is read in a note as outside

abbrev is_place : Shown → Bools
is_place (ListOf v n) = true
is_place (Slot v n) = true
is_place _ = false

abbrev place_in : Option Shown → Bools
place_in None = true
place_in (Some x) = is_place x

abbrev result_place : Result Shown ℕ → Bools
result_place (Ok x) = is_place x
result_place (Err r) = true

placed_place : (a b : Option (ℕ × ℕ)) (y : Shown) → otherwise (made_at ListOf a) (made_at Slot b) ≡ Some y → is_place y ≡ true
placed_place None None y e = sym (ap place_in e)
placed_place None (Some q) y e = sym (ap place_in e)
placed_place (Some p) b y e = sym (ap place_in e)

simple_by : (names : List (List ℕ)) (word : List ℕ) (x : Shown) (o : Option Shown) → placed names word ≡ o → value names word ≡ Ok x → is_place x ≡ false → simple names word ≡ Ok x
simple_by names word x None s e n = sym (ap (λ o. first_read o (simple names word)) s) ∙ e
simple_by names word x (Some y) s e n =
    let same : ◌≡◌ {A = Result Shown ℕ} (Ok y) (Ok x) = sym (ap (λ o. first_read o (simple names word)) s) ∙ e in
    let both_ways : true ≡ false = sym (placed_place _ _ y s) ∙ ap result_place same ∙ n in absurd cc

-- a value that is no list and no slot is one outside notes
outside : (IsVat : ℕ → Type 0) (x : Shown) → IsSimple IsVat x → IsValue IsVat x × (is_place (seen_value x) ≡ false)
outside IsVat (ListOf v n) h = absurd h
outside IsVat (Slot v n) h = absurd h
outside IsVat (Members' shape row) h = absurd h
outside IsVat other h = (h, refl)

simple_again : (names : List (List ℕ)) (x : Shown) → AreNames names → IsSimple (Below names) x → simple names (lines.value names x) ≡ Ok (seen_value x)
simple_again names x are h = let o = outside (Below names) x h in simple_by names (lines.value names x) (seen_value x) (placed names (lines.value names x)) refl (value_again names x are o.0) o.1

-- and it begins with no bracket
integer_starts : (z : ℤ) → IsWide z → starts 91 (signed_decimal z) ≡ false
integer_starts (pos n) h = no_mark 91 (decimal n) refl (digits_alone n (wide n (omega arith)))
integer_starts (negsuc n) h = refl

text_starts : (b : Bools) (t front behind : List ℕ) → starts 91 (cond b (quoted t) (quoted front ++ behind)) ≡ false
text_starts true t front behind = refl
text_starts false t front behind = refl

simple_starts : (names : List (List ℕ)) (x : Shown) → AreNames names → IsSimple (Below names) x → starts 91 (lines.value names x) ≡ false
simple_starts names (Bool true) are h = refl
simple_starts names (Int z) are h = integer_starts z h
simple_starts names (Text t) are h = text_starts (leb (length (chars t)) shown_length) t (encode_utf8_all (take shown_length (chars t))) (43 ∷ decimal (length (chars t) - shown_length))
simple_starts names (Named n) are h = starts_not 91 (lines.name names n) refl refl (begins_so names n are (fits names n h))
simple_starts names (ListOf v n) are h = absurd h
simple_starts names (Slot v n) are h = absurd h
simple_starts names (Members' shape row) are h = absurd h
simple_starts names other are h = refl

unbracketed : (names : List (List ℕ)) (height : ℕ) (word : List ℕ) → starts 91 word ≡ false → note_value names height word ≡ simple names word
unbracketed names zero word h = refl
unbracketed names (suc height) word h = ap (λ o. note_list names (note_value names height) word (unclosed o)) (no_front 91 word (behind_mark 91 word) refl h)

plain_again : (names : List (List ℕ)) (height : ℕ) (x : Shown) → AreNames names → IsSimple (Below names) x → note_value names height (lines.value names x) ≡ Ok (seen_value x)
plain_again names height x are h = unbracketed names height (lines.value names x) (simple_starts names x are h) ∙ simple_again names x are h

-- ---- lists

bracketed_again : (text : List ℕ) → bracketed (91 ∷ (text ++ 93 ∷ [])) ≡ Some text
bracketed_again text = ap unclosed (behind_again 91 (text ++ 93 ∷ [])) ∙ ap before_last (last_split 93 text [] refl)

-- where there are members, the first has a byte
abbrev BeginsFull : List (List ℕ) → Type 0
BeginsFull [] = Unit {0}
BeginsFull (w ∷ ws) = w ≡ [] → ⊥

members_apart : (ws : List (List ℕ)) → AllOf IsWord ws → BeginsFull ws → read.member_words (spaced ws) ≡ ws
members_apart [] h full = refl
members_apart ([] ∷ ws) h full = absurd (full refl)
members_apart ((b ∷ w) ∷ ws) h full =
    let text = spaced ((b ∷ w) ∷ ws) in ap (λ t. cond {A = List (List ℕ)} t [] (words_of text)) (one_or_more (length (w ++ flat_map (λ v. 32 ∷ v) ws))) ∙ words_back ((b ∷ w) ∷ ws) h

-- no value is empty
empty_none : (names : List (List ℕ)) (height : ℕ) → note_value names height [] ≡ Err 42
unfolding rsplit_once
empty_none names zero = refl
empty_none names (suc height) = refl

full_by : (names : List (List ℕ)) (height : ℕ) (word : List ℕ) (x : Shown) → note_value names height word ≡ Ok x → word ≡ [] → ⊥
full_by names height word x e is = let both_ways : ◌≡◌ {A = Result Shown ℕ} (Ok x) (Err 42) = sym e ∙ ap (note_value names height) is ∙ empty_none names height in cc

list_by : (names : List (List ℕ)) (height : ℕ) (word text : List ℕ) (ws : List (List ℕ)) (xs : List Shown) → bracketed word ≡ Some text → read.member_words text ≡ ws → all_of (note_value names height) ws ≡ Ok xs
    → note_value names (suc height) word ≡ Ok (members xs)
list_by names height word text ws xs b m e =
    ap (note_list names (note_value names height) word) b ∙ ap (λ vs. all_of (note_value names height) vs >>= (λ ys. Ok (members ys))) m ∙ ap (λ r. r >>= (λ ys. Ok (members ys))) e

module _ (names : List (List ℕ)) (are : AreNames names) where
  row_words : {n : _} (row : Row_of-Shown n) → AllOf IsWord (member_values names row)
  row_words row = member_words names (ordinary_names names are.lawful) row

  -- how the members of a list that has at most this height are read
  abbrev RowIsRead : ℕ → {n : _} → Row_of-Shown n → Type 0
  RowIsRead zero row = ⊥
  RowIsRead (suc height) row = (all_of (note_value names height) (member_values names row) ≡ Ok (seen_members row)) × BeginsFull (member_values names row)

  list_again : {n : _} (height : ℕ) (row : Row_of-Shown n) → RowIsRead height row → note_value names height (91 ∷ (spaced (member_values names row) ++ 93 ∷ [])) ≡ Ok (members (seen_members row))
  list_again zero row h = absurd h
  list_again (suc height) row h =
      list_by names height (91 ∷ (spaced (member_values names row) ++ 93 ∷ [])) (spaced (member_values names row)) (member_values names row) (seen_members row)
      (bracketed_again (spaced (member_values names row))) (members_apart (member_values names row) (row_words row) h.1) h.0

  mutual
    pub passed_again : (height : ℕ) (x : Shown) → IsPassed (Below names) height x → note_value names height (lines.value names x) ≡ Ok (seen_value x)
    passed_again height (Members' shape row) h = list_again height row (row_again height row h)
    passed_again height Null h = plain_again names height Null are h
    passed_again height (Bool b) h = plain_again names height (Bool b) are h
    passed_again height (Int z) h = plain_again names height (Int z) are h
    passed_again height (Char c) h = plain_again names height (Char c) are h
    passed_again height (Text t) h = plain_again names height (Text t) are h
    passed_again height (Broken t) h = plain_again names height (Broken t) are h
    passed_again height (Prim n) h = plain_again names height (Prim n) are h
    passed_again height (Named n) h = plain_again names height (Named n) are h
    passed_again height other h = absurd h

    row_again : {n : _} (height : ℕ) (row : Row_of-Shown n) → AreMembers (Below names) height row → RowIsRead height row
    row_again zero end_of-Shown h = h
    row_again zero (more_of-Shown x rest) h = h
    row_again (suc height) end_of-Shown h = (refl, tt)
    row_again (suc height) (more_of-Shown x rest) h = (
      all_more (note_value names height) (lines.value names x) (member_values names rest) (seen_value x) (seen_members rest) (passed_again height x h.0) (row_again (suc height) rest h.1).0,
      full_by names height (lines.value names x) (seen_value x) (passed_again height x h.0),
    )

pub values_again : ValuesAreReadAgain
values_again = record { outside = value_again; inside = λ names height x are h. passed_again names are height x h }
