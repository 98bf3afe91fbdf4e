-- The entries of a schedule: how each is spelled, which vats it names, and how many there are once drains are written out.
use Rattle.std.specs.Prelude.{ℕ, ◌==◌, nat_le, Bool, true, false, not, ◌&&◌, ◌||◌, if◌then◌else◌, List, [], ◌∷◌, ◌++◌, length, codes, map, Some, None, is_some, option_map, option_and_then}
use Rattle.std.specs.List.{list_any, list_all, flat_map, repeat, range_with_len}
use Rattle.std.specs.declared.option.Option.{Option}
use Rattle.std.specs.Str.{bytes_eq, all_ascii_digits}
use Rattle.std.specs.Str.Parse.{digits_value}
use Rattle.serde_json.specs.Data.{Data}
use Rattle.serde_json.specs.Find.{as_str}
use Rattle.ev_text.specs.Lines.{is_space, split}
use Rattle.ev_script.specs.Json.{◌>>=◌, list_at}
use Rattle.ev_script.specs.Vats.{place_of}
use Rattle.ev_script.specs.declared.script.Entry.{Entry}
use Rattle.ev_script.specs.declared.script.Entry.TheVariants.{Turn, Carry, Cut, Notice}
use Rattle.ev_script.specs.declared.entries.Verb.{Verb}
use Rattle.ev_script.specs.declared.entries.Verb.TheVariants as verb
use Rattle.ev_script.specs.declared.entries.Spelled.{Spelled}
use Rattle.ev_script.specs.declared.entries.Spelled.TheVariants as spelled
use Rattle.ev_script.specs.declared.entries.Step.{Step}
use Rattle.ev_script.specs.declared.entries.Step.TheVariants as step

-- ---- the spelling: words with one space between them

-- a word has at least one character and no space
abbrev pub is_word : List ℕ → Bool
is_word text = not (length text == 0) && not (list_any is_space text)

-- the place of the vat that a word names, where it names one
abbrev pub vat_word : List (List ℕ) → List ℕ → Option (Option ℕ)
vat_word names text = if is_word text then Some (place_of names text) else None

-- a number from 1 to 100,000 in decimal without a leading zero
abbrev pub begins_with_zero : List ℕ → Bool
begins_with_zero [] = false
begins_with_zero (c ∷ cs) = c == 48

abbrev pub is_numeral : List ℕ → Bool
is_numeral text = not (length text == 0) && all_ascii_digits text && not (begins_with_zero text)

abbrev pub most_rounds : ℕ
most_rounds = 100000

-- the number of the digits, where it is not too large
abbrev pub bounded_rounds : List ℕ → Option ℕ
bounded_rounds digits = if nat_le (digits_value 10 digits) most_rounds then Some (digits_value 10 digits) else None

abbrev pub rounds_of : List ℕ → Option ℕ
rounds_of text = if is_numeral text then bounded_rounds text else None

-- the verbs of two vats
abbrev pub verb_of : List ℕ → Option Verb
verb_of word =
    if bytes_eq word (codes "carry") then Some verb.Carry
    else if bytes_eq word (codes "cut") then Some verb.Cut
    else if bytes_eq word (codes "notice") then Some verb.Notice
    else None

abbrev pub turn_of : List (List ℕ) → List ℕ → Option Spelled
turn_of names rest = option_map spelled.Turn (vat_word names rest)

abbrev pub drain_of : List ℕ → Option Spelled
drain_of rest = option_map spelled.Drain (rounds_of rest)

abbrev pub pair_of : List (List ℕ) → List ℕ → List ℕ → Option Spelled
pair_of names word rest = do
  verb ← verb_of word
  vats ← split rest
  v ← vat_word names vats.0
  w ← vat_word names vats.1
  Some (spelled.Pair verb v w)

-- what a verb and the words behind it spell
abbrev pub told : List (List ℕ) → List ℕ → List ℕ → Option Spelled
told names word rest =
    if bytes_eq word (codes "turn") then turn_of names rest
    else if bytes_eq word (codes "drain") then drain_of rest
    else pair_of names word rest

-- `turn V`, `carry V W`, `cut V W`, `notice V W` or `drain N`
abbrev pub spelled_by : List (List ℕ) → List ℕ → Option Spelled
spelled_by names text = do
  words ← split text
  told names words.0 words.1

abbrev pub spelled_in : List (List ℕ) → Data → Option Spelled
spelled_in names d = option_and_then (spelled_by names) (as_str d)

abbrev pub is_spelled : List (List ℕ) → Data → Bool
is_spelled names d = is_some (spelled_in names d)

-- the values of the schedule, where each is a text that spells an entry
abbrev pub entries_of : List (List ℕ) → Data → Option (List Data)
entries_of names d = do
  values ← list_at (codes "schedule") d
  if list_all (is_spelled names) values then Some values else None

-- ---- the vats: each is in the script, and two of one entry differ

abbrev pub pair_step : Verb → ℕ → ℕ → Step
pair_step verb.Carry v w = step.Carry v w
pair_step verb.Cut v w = step.Cut v w
pair_step verb.Notice v w = step.Notice v w

abbrev pub placed_pair : Verb → Option ℕ → Option ℕ → Option Step
placed_pair verb v w = do
  a ← v
  b ← w
  if a == b then None else Some (pair_step verb a b)

abbrev pub placed : Spelled → Option Step
placed (spelled.Turn v) = option_map step.Turn v
placed (spelled.Pair verb v w) = placed_pair verb v w
placed (spelled.Drain n) = Some (step.Rounds n)

-- the step of a value that spells an entry
abbrev pub step_in : List (List ℕ) → Data → Option Step
step_in names d = option_and_then placed (spelled_in names d)

-- ---- drains, written out

-- the carry from a vat to another
abbrev pub carry_to : ℕ → ℕ → List Entry
carry_to v w = if w == v then [] else Carry v w ∷ []

-- the carries from a vat to each other vat
abbrev pub carries_from : List ℕ → ℕ → List Entry
carries_from vats v = flat_map (carry_to v) vats

-- a turn of each vat in order, then a carry for each ordered pair, first by the sender and then by the receiver
abbrev pub round_of : List ℕ → List Entry
round_of vats = map Turn vats ++ flat_map (carries_from vats) vats

-- the round of as many vats
abbrev pub round : ℕ → List Entry
round n = round_of (range_with_len 0 n)

abbrev pub written : List Entry → Step → List Entry
written entries (step.Turn v) = Turn v ∷ []
written entries (step.Carry v w) = Carry v w ∷ []
written entries (step.Cut v w) = Cut v w ∷ []
written entries (step.Notice v w) = Notice v w ∷ []
written entries (step.Rounds n) = repeat n entries

-- the entries of the steps, each drain as so many rounds
abbrev pub written_out : List Entry → List Step → List Entry
written_out entries steps = flat_map (written entries) steps

-- ---- before each notice stands a cut of the same two vats

abbrev pub is_pair : ℕ → ℕ → ℕ → ℕ → Bool
is_pair v w a b = ((v == a) && (w == b)) || ((v == b) && (w == a))

abbrev pub cuts : ℕ → ℕ → Entry → Bool
cuts v w (Cut a b) = is_pair v w a b
cuts v w (Turn a) = false
cuts v w (Carry a b) = false
cuts v w (Notice a b) = false

-- an entry may stand behind these
abbrev pub may_follow : List Entry → Entry → Bool
may_follow before (Notice v w) = list_any (cuts v w) before
may_follow before (Turn v) = true
may_follow before (Carry v w) = true
may_follow before (Cut v w) = true

-- each entry may stand behind those before it
abbrev pub are_in_order : List Entry → List Entry → Bool
are_in_order before [] = true
are_in_order before (e ∷ es) = may_follow before e && are_in_order (before ++ e ∷ []) es
