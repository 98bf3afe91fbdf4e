-- What a text of vats says. A line that begins with `=== ` is a head: it says what the lines under it are, up to the next
-- head. The lines before the first head say nothing.
use Rattle.std.specs.Prelude.{ℕ, suc, ◌==◌, Bool, false, not, if◌then◌else◌, List, [], ◌∷◌, ◌++◌, codes, Some, None, is_some, option_map, Result, Ok, Err}
use Rattle.std.specs.List.{flat_map, filter, join_with_byte, repeat, slice_split}
use Rattle.std.specs.declared.option.Option.{Option}
use Rattle.std.specs.Str.{bytes_eq}
use Rattle.ev_text.specs.Lines.{is_line_feed, is_space, number, split}
use Rattle.def_vats.specs.declared.told.Told.{Told}
use Rattle.def_vats.specs.declared.told.ToldVat.{ToldVat}

-- ---- lines and heads

abbrev pub lines_of : List ℕ → List (List ℕ)
lines_of text = slice_split is_line_feed text

-- what stands behind the mark of a head, by the line's text before its first space and behind it
abbrev pub marked : Option (List ℕ × List ℕ) → Option (List ℕ)
marked None = None
marked (Some words) = if bytes_eq words.0 (codes "===") then Some words.1 else None

-- what stands behind `=== `
abbrev pub head_of : List ℕ → Option (List ℕ)
head_of line = marked (split line)

abbrev pub is_head : List ℕ → Bool
is_head line = is_some (head_of line)

-- the words of a head: one space stands between two
abbrev pub words_of : List ℕ → List (List ℕ)
words_of head = slice_split is_space head

-- the lines up to the next head
abbrev pub under : List (List ℕ) → List (List ℕ)
under [] = []
under (line ∷ lines) = if is_head line then [] else line ∷ under lines

-- ---- what lines under a head say

-- a line as it stands in a source
abbrev pub ended : List ℕ → List ℕ
ended line = line ++ 10 ∷ []

-- a line in front of what is kept of those behind it
abbrev pub kept : List ℕ → List (List ℕ) → List (List ℕ)
kept [] [] = []
kept [] (next ∷ lines) = [] ∷ next ∷ lines
kept (c ∷ line) lines = (c ∷ line) ∷ lines

-- the lines up to the last that is not empty
abbrev pub trimmed : List (List ℕ) → List (List ℕ)
trimmed [] = []
trimmed (line ∷ lines) = kept line (trimmed lines)

-- a source as it is: empty lines at its end are none of it, and its last line ends with a line feed
abbrev pub plain_source : List (List ℕ) → List ℕ
plain_source lines = flat_map ended (trimmed lines)

-- what stands behind the `|` of a line that begins with it; other lines say nothing
abbrev pub behind_bar : List ℕ → List (List ℕ)
behind_bar [] = []
behind_bar (c ∷ line) = if c == 124 then line ∷ [] else []

-- a source whose lines are told one by one, with a line feed between two: any text is one
abbrev pub quoted_source : List (List ℕ) → List ℕ
quoted_source lines = join_with_byte 10 (flat_map behind_bar lines)

-- a line of a schedule is an entry, but an empty one and one that begins with `#`
abbrev pub is_entry : List ℕ → Bool
is_entry [] = false
is_entry (c ∷ line) = not (c == 35)

-- ---- what a head says with the lines under it

-- nobody, or the names behind `knows`
abbrev pub known_in : List (List ℕ) → Option (List (List ℕ))
known_in [] = Some []
known_in (word ∷ words) = if bytes_eq word (codes "knows") then Some words else None

-- a name, and whom the vat knows
abbrev pub vat_told : List (List ℕ) → List ℕ → Option ToldVat
vat_told [] source = None
vat_told (name ∷ words) source = option_map (λ knows. record { name = name; knows = knows; source = source }) (known_in words)

abbrev pub with_vat : Told → Option ToldVat → Option Told
with_vat told None = None
with_vat told (Some vat) = Some (record told { vats = told.vats ++ vat ∷ [] })

abbrev pub with_schedule : Told → List (List ℕ) → List (List ℕ) → Option Told
with_schedule told [] lines = Some (record told { schedule = told.schedule ++ filter is_entry lines })
with_schedule told (word ∷ words) lines = None

-- the last key and the last fuel count
abbrev pub with_key : Told → List (List ℕ) → Option Told
with_key told [] = None
with_key told (key ∷ []) = Some (record told { key = key })
with_key told (key ∷ word ∷ words) = None

abbrev pub fuel_told : Told → Option ℕ → Option Told
fuel_told told None = None
fuel_told told (Some fuel) = Some (record told { fuel = Some fuel })

-- the greatest number that is read for a fuel
abbrev pub most_fuel : ℕ
most_fuel = 10000000

abbrev pub with_fuel : Told → List (List ℕ) → Option Told
with_fuel told [] = None
with_fuel told (fuel ∷ []) = fuel_told told (number most_fuel fuel)
with_fuel told (fuel ∷ word ∷ words) = None

-- `vat NAME`, `vat NAME knows NAME ..`, the same with `quoted` in place of `vat`, `schedule`, `key DIGITS` and `fuel NUMBER`
abbrev pub with_verb : Told → List ℕ → List (List ℕ) → List (List ℕ) → Option Told
with_verb told verb words lines =
    if bytes_eq verb (codes "vat") then with_vat told (vat_told words (plain_source lines))
    else if bytes_eq verb (codes "quoted") then with_vat told (vat_told words (quoted_source lines))
    else if bytes_eq verb (codes "schedule") then with_schedule told words lines
    else if bytes_eq verb (codes "key") then with_key told words
    else if bytes_eq verb (codes "fuel") then with_fuel told words
    else None

abbrev pub with_words : Told → List (List ℕ) → List (List ℕ) → Option Told
with_words told [] lines = None
with_words told (verb ∷ words) lines = with_verb told verb words lines

-- ---- a whole text

-- nothing but a key of zeros
abbrev pub nothing_told : Told
nothing_told = record { key = repeat 64 (48 ∷ []); fuel = None; vats = []; schedule = [] }

abbrev pub or_line : ℕ → Option Told → Result Told ℕ
or_line n None = Err n
or_line n (Some told) = Ok told

-- what is told once the line of a number is read
abbrev pub with_line : ℕ → Told → Option (List ℕ) → List (List ℕ) → Result Told ℕ
with_line n told None lines = Ok told
with_line n told (Some head) lines = or_line n (with_words told (words_of head) (under lines))

infixl 10 ◌>>=◌
abbrev pub ◌>>=◌ : {A B : Type 0} → Result A ℕ → (A → Result B ℕ) → Result B ℕ
Ok x >>= f = f x
Err line >>= f = Err line

-- what the lines say from the line of a number on, or the number of the first head that says nothing
abbrev pub told_from : ℕ → Told → List (List ℕ) → Result Told ℕ
told_from n told [] = Ok told
told_from n told (line ∷ lines) = do
  more ← with_line n told (head_of line) lines
  told_from (suc n) more lines

-- What a text says, or the number of its first line that is a head and says nothing. Lines are counted from 1.
unfoldable pub told : List ℕ → Result Told ℕ
told text = told_from 1 nothing_told (lines_of text)
