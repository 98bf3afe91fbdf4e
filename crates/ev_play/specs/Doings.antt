-- What a play does, entry by entry: how it is spelled, which vats it names, and what there is once drains are written out.
use Rattle.std.specs.Prelude.{ℕ, ◌/◌, ◌%◌, ◌==◌, Bool, ◌&&◌, if◌then◌else◌, List, [], ◌∷◌, length, codes, map, Some, None, is_some, option_map, option_and_then}
use Rattle.std.specs.List.{list_all, flat_map, range_with_len}
use Rattle.std.specs.declared.option.Option.{Option}
use Rattle.std.specs.Str.{bytes_eq}
use Rattle.serde_json.specs.Data.{Data}
use Rattle.serde_json.specs.Find.{as_str}
use Rattle.ev_text.specs.Lines.{split}
use Rattle.ev_script.specs.Json.{◌>>=◌, list_at}
use Rattle.ev_script.specs.Head.{is_between, is_hex_digit, key_byte}
use Rattle.ev_script.specs.Schedule.{vat_word, told, placed, written}
use Rattle.ev_script.specs.declared.entries.Spelled.{Spelled}
use Rattle.ev_script.specs.declared.script.Entry.{Entry}
use Rattle.ev_play.specs.declared.doings.PlayStep.{PlayStep}
use Rattle.ev_play.specs.declared.doings.PlayStep.TheVariants as step
use Rattle.ev_play.specs.declared.play.Doing.{Doing}
use Rattle.ev_play.specs.declared.play.Doing.TheVariants.{Does, Inject}

-- ---- the spelling: an entry as of every script, or `inject V W HEX`

-- as it is spelled: the digits of an inject spell its bytes
pub data Spelling : Type 0 where
  Plain : Spelled → Spelling
  Injects : Option ℕ → Option ℕ → List ℕ → Spelling

-- 2 to 8,192 digits out of 0 to 9 and a to f, an even number of them
abbrev pub is_frame : List ℕ → Bool
is_frame digits = is_between 2 8192 (length digits) && (length digits % 2 == 0) && list_all is_hex_digit digits

-- what stands behind the word `inject`
abbrev pub inject_of : List (List ℕ) → List ℕ → Option Spelling
inject_of names rest = do
  first ← split rest
  second ← split first.1
  v ← vat_word names first.0
  w ← vat_word names second.0
  if is_frame second.1 then Some (Injects v w second.1) else None

-- what a verb and the words behind it spell
abbrev pub spelling_of : List (List ℕ) → List ℕ → List ℕ → Option Spelling
spelling_of names word rest = if bytes_eq word (codes "inject") then inject_of names rest else option_map Plain (told names word rest)

abbrev pub spelling_by : List (List ℕ) → List ℕ → Option Spelling
spelling_by names text = do
  words ← split text
  spelling_of names words.0 words.1

abbrev pub spelling_in : List (List ℕ) → Data → Option Spelling
spelling_in names d = option_and_then (spelling_by names) (as_str d)

abbrev pub is_spelling : List (List ℕ) → Data → Bool
is_spelling names d = is_some (spelling_in names d)

-- the values of the schedule, where each is a text that spells something to do
abbrev pub doings_of : List (List ℕ) → Data → Option (List Data)
doings_of names d = do
  values ← list_at (codes "schedule") d
  if list_all (is_spelling names) values then Some values else None

-- ---- the vats: each is in the script, and two of one entry differ

-- byte i is spelled by the digits 2i and 2i + 1, the higher first
abbrev pub frame_bytes : List ℕ → List ℕ
frame_bytes digits = map (key_byte digits) (range_with_len 0 (length digits / 2))

abbrev pub placed_inject : Option ℕ → Option ℕ → List ℕ → Option PlayStep
placed_inject v w digits = do
  a ← v
  b ← w
  if a == b then None else Some (step.Inject a b (frame_bytes digits))

abbrev pub placed_spelling : Spelling → Option PlayStep
placed_spelling (Plain s) = option_map step.Plain (placed s)
placed_spelling (Injects v w digits) = placed_inject v w digits

-- the step of a value that spells something to do
abbrev pub play_step_in : List (List ℕ) → Data → Option PlayStep
play_step_in names d = option_and_then placed_spelling (spelling_in names d)

-- ---- drains, written out

abbrev pub done_by : List Entry → PlayStep → List Doing
done_by round (step.Plain s) = map Does (written round s)
done_by round (step.Inject v w bytes) = Inject v w bytes ∷ []

-- what the steps do, each drain as so many rounds
abbrev pub done_by_all : List Entry → List PlayStep → List Doing
done_by_all round steps = flat_map (done_by round) steps

-- ---- the entries as of every script

abbrev pub entry_in : Doing → List Entry
entry_in (Does e) = e ∷ []
entry_in (Inject v w bytes) = []

abbrev pub entries_in : List Doing → List Entry
entries_in doings = flat_map entry_in doings
