-- A text of a history tells its lines, and their words.
use Rattle.std.proofs.Common.{◌≡◌, ℕ, zero, suc, ◌/◌, ◌%◌, Bool, true, false, cond, not, eqb, List, [], ◌∷◌, ◌++◌, refl}
use Rattle.std.specs.Prelude.{filter, slice_get, unwrap_or}
use Rattle.std.specs.List.{flat_map, list_all}
use Rattle.std.specs.Char.{digit_char}
use Rattle.std.proofs.lemmas.Bool.{and_parts}
use Rattle.def_event.specs.declared.event.Event.{Event}
use Rattle.def_event.specs.declared.shown.Shown.{Row_of-Shown}
use Rattle.def_event.specs.Lines.{spaced, hex, is_no_frame, line_of, member_values, words}
use Rattle.law_text.specs.Text.Feeds.{IsOneLine, AllOf, Fits, TextsTellLines}
use Rattle.law_text.specs.Text.Words.{Outside, IsWord, IsOrdinary, ordinary, WordsFit, TextsTellWords}
use Rattle.law_text.proofs.Text.Plain.{plain, line_cons, line_append, flat_line, decimal_line, signed_line, digit_line, quoted_character_line, shortened_line, verb_line}
use Rattle.law_text.proofs.Text.Reading.{Goes, goes_on, goes_first, ordinary_word, word_append, word_cons, digit_char_ordinary, decimal_word, signed_word}
use Rattle.law_text.proofs.Text.Quotes.{quoted_character_word, shortened_word, verb_word}
use Rattle.law_text.proofs.Text.Spelled.{Leaves, AllSome, row_are, words_are}
use Rattle.law_text.proofs.Text.Split.{one_apart, words_apart, texts_apart}

all_some : {A : Type 0} (P : A → Type 0) (xs : List A) → AllSome P xs → AllOf P xs
all_some P [] h = absurd h
all_some P (x ∷ xs) h = h

at_place : (P : List ℕ → Type 0) (ws : List (List ℕ)) (n : ℕ) → P [] → AllOf P ws → P (unwrap_or (slice_get ws n) [])
at_place P [] n none h = none
at_place P (w ∷ ws) zero none h = h.0
at_place P (w ∷ ws) (suc n) none h = at_place P ws n none h.1

-- ---- lines

behind_line : (ws : List (List ℕ)) → AllOf IsOneLine ws → IsOneLine (flat_map (λ v. 32 ∷ v) ws)
behind_line [] h = refl
behind_line (w ∷ ws) h = line_append (32 ∷ w) (flat_map (λ v. 32 ∷ v) ws) (line_cons 32 w refl h.0) (behind_line ws h.1)

spaced_line : (ws : List (List ℕ)) → AllOf IsOneLine ws → IsOneLine (spaced ws)
spaced_line [] h = refl
spaced_line (w ∷ ws) h = line_append w (flat_map (λ v. 32 ∷ v) ws) h.0 (behind_line ws h.1)

ordinary_plain : (c : ℕ) → ordinary c ≡ true → plain c ≡ true
ordinary_plain c h = (and_parts (not (eqb c 10)) _ h).0

ordinary_line : (w : List ℕ) → IsOrdinary w → IsOneLine w
ordinary_line [] h = refl
ordinary_line (c ∷ cs) h = let both = and_parts (ordinary c) (list_all ordinary cs) h in line_cons c cs (ordinary_plain c both.0) (ordinary_line cs both.1)

line_leaves : (vats : List (List ℕ)) → AllOf IsOneLine vats → Leaves vats IsOneLine
line_leaves vats good = record {
  literal = ordinary_line;
  append = line_append;
  first = λ c cs h k. line_cons c cs (ordinary_plain c h) k;
  place = λ v. at_place IsOneLine vats v refl good;
  number = decimal_line;
  signed = signed_line;
  bytes = λ bs. flat_line (λ b. digit_char (b / 16) ∷ digit_char (b % 16) ∷ []) bs (λ b. line_cons (digit_char (b / 16)) (digit_char (b % 16) ∷ []) (digit_line (b / 16)) (line_cons (digit_char (b % 16)) [] (digit_line (b % 16)) refl));
  character = quoted_character_line;
  text = shortened_line;
  verb = verb_line;
  list = λ ws h. line_cons 91 (spaced ws ++ 93 ∷ []) refl (line_append (spaced ws) (93 ∷ []) (spaced_line ws h) refl);
}

pub event_line : (vats : List (List ℕ)) → AllOf IsOneLine vats → (e : Event) → Fits e → IsOneLine (line_of vats e)
event_line vats good e h = spaced_line (words vats e) (all_some IsOneLine (words vats e) (words_are vats IsOneLine (line_leaves vats good) e h))

kept : {A : Type 0} (P : A → Type 0) (x : A) (xs : List A) (b : Bool) → P x → AllOf P xs → AllOf P (cond b (x ∷ xs) xs)
kept P x xs true h k = (h, k)
kept P x xs false h k = k

-- what is left of a list where some are left out
pub some_fit : {A : Type 0} (P : A → Type 0) (keep : A → Bool) (xs : List A) → AllOf P xs → AllOf P (filter keep xs)
some_fit P keep [] h = tt
some_fit P keep (x ∷ xs) h = kept P x (filter keep xs) (keep x) h.0 (some_fit P keep xs h.1)

line_apart : (vats : List (List ℕ)) → AllOf IsOneLine vats → (x y : Event) (r q : List ℕ) → Fits x → Fits y → line_of vats x ++ 10 ∷ r ≡ line_of vats y ++ 10 ∷ q → (line_of vats x ≡ line_of vats y) × (r ≡ q)
line_apart vats good x y r q h k e = one_apart (line_of vats x) (line_of vats y) r q (event_line vats good x h) (event_line vats good y k) e

pub texts_tell : TextsTellLines
texts_tell vats good xs ys h k = (
  λ e. texts_apart (line_of vats) (line_of vats) Fits (line_apart vats good) xs ys h k e,
  λ e. texts_apart (line_of vats) (line_of vats) Fits (line_apart vats good) (filter is_no_frame xs) (filter is_no_frame ys) (some_fit Fits is_no_frame xs h) (some_fit Fits is_no_frame ys k) e,
)

-- ---- words

hex_word : (bs : List ℕ) → IsWord (hex bs)
hex_word [] = λ d. refl
hex_word (b ∷ bs) = word_cons (digit_char (b / 16)) (digit_char (b % 16) ∷ hex bs) (digit_char_ordinary (b / 16)) (word_cons (digit_char (b % 16)) (hex bs) (digit_char_ordinary (b % 16)) (hex_word bs))

-- between brackets
abbrev IsInner : List ℕ → Type 0
IsInner w = (d : ℕ) → Goes (Outside (suc d)) w (Outside (suc d))

behind_inner : (ws : List (List ℕ)) → AllOf IsWord ws → IsInner (flat_map (λ v. 32 ∷ v) ws)
behind_inner [] h d = refl
behind_inner (w ∷ ws) h d = goes_on (Outside (suc d)) (Outside (suc d)) (Outside (suc d)) (32 ∷ w) (flat_map (λ v. 32 ∷ v) ws)
    (goes_first (Outside (suc d)) (Outside (suc d)) (Outside (suc d)) 32 w refl (h.0 (suc d))) (behind_inner ws h.1 d)

spaced_inner : (ws : List (List ℕ)) → AllOf IsWord ws → IsInner (spaced ws)
spaced_inner [] h d = refl
spaced_inner (w ∷ ws) h d = goes_on (Outside (suc d)) (Outside (suc d)) (Outside (suc d)) w (flat_map (λ v. 32 ∷ v) ws) (h.0 (suc d)) (behind_inner ws h.1 d)

list_word : (ws : List (List ℕ)) → AllOf IsWord ws → IsWord (91 ∷ (spaced ws ++ 93 ∷ []))
list_word ws h d = goes_first (Outside d) (Outside (suc d)) (Outside d) 91 (spaced ws ++ 93 ∷ []) refl (goes_on (Outside (suc d)) (Outside (suc d)) (Outside d) (spaced ws) (93 ∷ []) (spaced_inner ws h d) refl)

all_words : (ws : List (List ℕ)) → AllOf IsOrdinary ws → AllOf IsWord ws
all_words [] h = tt
all_words (w ∷ ws) h = (ordinary_word w h.0, all_words ws h.1)

word_leaves : (vats : List (List ℕ)) → AllOf IsOrdinary vats → Leaves vats IsWord
word_leaves vats good = record {
  literal = ordinary_word;
  append = word_append;
  first = word_cons;
  place = λ v. at_place IsWord vats v (λ d. refl) (all_words vats good);
  number = decimal_word;
  signed = signed_word;
  bytes = hex_word;
  character = quoted_character_word;
  text = shortened_word;
  verb = verb_word;
  list = list_word;
}

pub some_words : (vats : List (List ℕ)) → AllOf IsOrdinary vats → (e : Event) → WordsFit e → AllSome IsWord (words vats e)
some_words vats good e h = words_are vats IsWord (word_leaves vats good) e h

pub event_words : (vats : List (List ℕ)) → AllOf IsOrdinary vats → (e : Event) → WordsFit e → AllOf IsWord (words vats e)
event_words vats good e h = all_some IsWord (words vats e) (some_words vats good e h)

pub member_words : (vats : List (List ℕ)) → AllOf IsOrdinary vats → {n : _} (row : Row_of-Shown n) → AllOf IsWord (member_values vats row)
member_words vats good row = row_are vats IsWord (word_leaves vats good) row

pub texts_tell_words : TextsTellWords
texts_tell_words vats good xs ys h k e = texts_apart (line_of vats) (words vats) WordsFit
    (λ x y r q a b i. words_apart (words vats x) (words vats y) r q (some_words vats good x a) (some_words vats good y b) i) xs ys h k e
