-- What the words of values stand for. Rule 42 fails where a word stands for none.
use Rattle.std.specs.Prelude.{ℕ, zero, suc, ◌==◌, if◌then◌else◌, List, [], ◌∷◌, length, codes, Some, None, Result, Ok}
use Rattle.std.specs.declared.option.Option.{Option}
use Rattle.std.specs.Path.{rsplit_once}
use Rattle.def_event.specs.declared.shown.Shown.{Shown, Char, Text, Broken, List as ListOf, Slot}
use Rattle.def_event.specs.Lines.{members}
use Rattle.ev_script.specs.Script.{◌>>=◌}
use Rattle.ev_trace_words.specs.Words.{words_of}
use Rattle.ev_trace_words.specs.Parts.{behind_label, behind_mark, numbered, otherwise, plain}
use Rattle.ev_trace_words.specs.Texts.{character, shown_text}

-- what a function reads from each item in order
abbrev pub all_of : {A B : Type 0} → (A → Result B ℕ) → List A → Result (List B) ℕ
all_of f [] = Ok []
all_of f (x ∷ xs) = do
  y ← f x
  ys ← all_of f xs
  Ok (y ∷ ys)

-- what is read already, or else the second reading
abbrev pub first_read : {A : Type 0} → Option A → Result A ℕ → Result A ℕ
first_read None second = second
first_read (Some x) second = Ok x

-- ---- values that are spelled by a text or a character

abbrev pub character_value : List ℕ → Result Shown ℕ
character_value word = do
  c ← character word
  Ok (Char c)

abbrev pub text_value : List ℕ → Option (List ℕ) → Result Shown ℕ
text_value word None = do
  t ← shown_text word
  Ok (Text t)
text_value word (Some problem) = do
  t ← shown_text problem
  Ok (Broken t)

abbrev pub quoted_value : List ℕ → Option (List ℕ) → Result Shown ℕ
quoted_value word None = text_value word (behind_label (codes "broken") word)
quoted_value word (Some behind) = character_value word

-- ---- values by the names of the vats

abbrev pub made_at : (ℕ → ℕ → Shown) → Option (ℕ × ℕ) → Option Shown
made_at kind None = None
made_at kind (Some x) = Some (kind x.0 x.1)

-- what stands between brackets round the whole word
abbrev pub before_last : Option (List ℕ × List ℕ) → Option (List ℕ)
before_last None = None
before_last (Some parts) = if length parts.1 == 0 then Some parts.0 else None

abbrev pub unclosed : Option (List ℕ) → Option (List ℕ)
unclosed None = None
unclosed (Some behind) = before_last (rsplit_once 93 behind)

abbrev pub bracketed : List ℕ → Option (List ℕ)
bracketed word = unclosed (behind_mark 91 word)

abbrev pub member_words : List ℕ → List (List ℕ)
member_words text = if length text == 0 then [] else words_of text

module _ (names : List (List ℕ)) where
  -- a value that is no list and no slot
  abbrev pub simple : List ℕ → Result Shown ℕ
  simple word = first_read (plain names word) (quoted_value word (behind_mark 39 word))

  -- a list or a slot by its number
  abbrev pub placed : List ℕ → Option Shown
  placed word = otherwise (made_at ListOf (numbered names 37 word)) (made_at Slot (numbered names 38 word))

  -- a value outside notes
  abbrev pub value : List ℕ → Result Shown ℕ
  value word = first_read (placed word) (simple word)

  abbrev pub values : List (List ℕ) → Result (List Shown) ℕ
  values words = all_of value words

  -- a value in a note, by the text between its brackets, where it has brackets, and by how members are read
  abbrev pub note_list : (List ℕ → Result Shown ℕ) → List ℕ → Option (List ℕ) → Result Shown ℕ
  note_list member word None = simple word
  note_list member word (Some text) = do
    xs ← all_of member (member_words text)
    Ok (members xs)

  -- a value in a note, where lists have at most this height
  abbrev pub note_value : ℕ → List ℕ → Result Shown ℕ
  note_value zero word = simple word
  note_value (suc height) word = note_list (note_value height) word (bracketed word)

  abbrev pub note_values : List (List ℕ) → Result (List Shown) ℕ
  note_values words = all_of (note_value 100) words
