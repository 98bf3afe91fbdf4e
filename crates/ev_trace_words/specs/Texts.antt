-- What a word stands for in which a text is spelled. Rule 42 fails where a word stands for nothing.
use Rattle.std.specs.Prelude.{ℕ, ◌-◌, ◌==◌, nat_lt, ◌||◌, ◌&&◌, if◌then◌else◌, List, [], ◌∷◌, length, codes, chars, slice_get, slice_index, Some, None, option_map, Result, Ok, Err}
use Rattle.std.specs.declared.option.Option.{Option}
use Rattle.std.specs.Path.{rsplit_once}
use Rattle.std.specs.Str.{bytes_eq}
use Rattle.def_text.specs.Quoting.{quoted, quoted_character}
use Rattle.def_text.specs.Keywords.{is_identifier}
use Rattle.ev_text.specs.Unquoting.{escape, unquoted}
use Rattle.ev_script.specs.Script.{rule, ◌>>=◌}
use Rattle.ev_trace_words.specs.Parts.{behind_mark, count}

-- the text, where the word is its spelling
abbrev pub exactly : List ℕ → List ℕ → Result (List ℕ) ℕ
exactly word text = if bytes_eq (quoted text) word then Ok text else Err 42

abbrev pub text_by : List ℕ → Result (List ℕ) ℕ → Result (List ℕ) ℕ
text_by word (Ok text) = exactly word text
text_by word (Err place) = Err 42

-- a text between `"`, spelled as it is printed
abbrev pub text : List ℕ → Result (List ℕ) ℕ
text word = text_by word (unquoted word)

-- a text that a line prints whole has at most 32 characters
abbrev pub whole : List ℕ → Result (List ℕ) ℕ
whole word = do
  t ← text word
  if nat_lt 32 (length (chars t)) then Err 42 else Ok t

-- of a longer one it prints the first 32, and behind `+` how many more there are; it is read as that spelling
abbrev pub cut_by : List ℕ → Option (List ℕ × List ℕ) → Result (List ℕ) ℕ
cut_by word None = Err 42
cut_by word (Some parts) = do
  front ← text parts.0
  more ← rule 42 (count parts.1)
  if length (chars front) == 32 && nat_lt 0 more then Ok word else Err 42

abbrev pub cut : List ℕ → Result (List ℕ) ℕ
cut word = cut_by word (rsplit_once 43 word)

-- a text as a line prints it
abbrev pub shown_text : List ℕ → Result (List ℕ) ℕ
shown_text word = if slice_index word (length word - 1) == 34 then whole word else cut word

-- ---- characters

-- the character behind an opening `'`
abbrev pub character_behind : List ℕ → Option ℕ
character_behind [] = None
character_behind (b ∷ more) = if b == 92 then option_map (λ found. found.0) (escape more) else slice_get (chars (b ∷ more)) 0

-- a character between `'`, spelled as it is printed
abbrev pub character : List ℕ → Result ℕ ℕ
character word = do
  behind ← rule 42 (behind_mark 39 word)
  c ← rule 42 (character_behind behind)
  if bytes_eq (quoted_character c) word then Ok c else Err 42

-- ---- verbs and names of objects

abbrev pub quoted_verb : List ℕ → Result (List ℕ) ℕ
quoted_verb word = do
  t ← text word
  if is_identifier t then Err 42 else Ok t

-- a verb: bare where it is an identifier, else as a text
abbrev pub verb : List ℕ → Result (List ℕ) ℕ
verb word = if is_identifier word then Ok word else quoted_verb word

-- the name of an object: an identifier, or `_`
abbrev pub object_name : List ℕ → Result (List ℕ) ℕ
object_name word = if is_identifier word || bytes_eq word (codes "_") then Ok word else Err 42
