-- The lines that `sturdy` reads: a key, and then what is done.
use Rattle.std.specs.Prelude.{ℕ, if◌then◌else◌, List, codes, drop, Some, None, option_map, Result, Ok, Err}
use Rattle.std.specs.declared.option.Option.{Option}
use Rattle.std.specs.List.{before_first}
use Rattle.std.specs.Str.{bytes_eq}
use Rattle.ev_text.specs.Lines.{is_line_feed, text_of, lines, split, number, bytes, spelled_number}
use Rattle.ev_script.specs.Json.{each, ◌>>=◌}
use Rattle.ev_sturdy.specs.declared.sturdy.Side.{Side}
use Rattle.ev_sturdy.specs.declared.sturdy.Side.TheVariants.{Host, Guest}
use Rattle.ev_sturdy.specs.declared.sheet.Line.{Line}
use Rattle.ev_sturdy.specs.declared.sheet.Line.TheVariants.{Register, Connect, Show, Use, Cut, Notice}
use Rattle.ev_sturdy.specs.declared.sheet.Sheet.{Sheet}

-- the greatest number of an object, and of a connection or a place in one
abbrev pub most_object : ℕ
most_object = 65535

abbrev pub most_number : ℕ
most_number = 4294967295

abbrev pub side_of : List ℕ → Option Side
side_of word = if bytes_eq word (codes "host") then Some Host else if bytes_eq word (codes "guest") then Some Guest else None

-- `connect` or `cut`
abbrev pub alone : List ℕ → Option Line
alone word = if bytes_eq word (codes "connect") then Some Connect else if bytes_eq word (codes "cut") then Some Cut else None

-- the two numbers of a use
abbrev pub use_of : List ℕ → Option Line
use_of rest = do
  words ← split rest
  generation ← number most_number words.0
  place ← number most_number words.1
  Some (Use generation place)

-- `register N`, `show HEX`, `use G P` or `notice S`
abbrev pub told : List ℕ → List ℕ → Option Line
told word rest =
    if bytes_eq word (codes "register") then option_map Register (number most_object rest)
    else if bytes_eq word (codes "show") then option_map Show (spelled_number rest)
    else if bytes_eq word (codes "use") then use_of rest
    else if bytes_eq word (codes "notice") then option_map Notice (side_of rest)
    else None

-- what a line says, by the text before its first space and the text behind it
abbrev pub line_by : List ℕ → Option (List ℕ × List ℕ) → Option Line
line_by text None = alone text
line_by text (Some words) = told words.0 words.1

abbrev pub line_of : List ℕ → Option Line
line_of text = line_by text (split text)

-- `key` and 64 digits
abbrev pub key_by : List ℕ × List ℕ → Option (List ℕ)
key_by words = if bytes_eq words.0 (codes "key") then bytes 32 words.1 else None

abbrev pub key_of : List ℕ → Option (List ℕ)
key_of text = split text >>= key_by

abbrev pub first_line : List ℕ → List ℕ
first_line text = before_first is_line_feed text

-- The first line has the key, which rule 22 asks for. Each other line says what is done, and each line ends with a line
-- feed, by rule 23.
abbrev pub commands : List ℕ → Option (List Line)
commands text = do
  found ← lines text
  each line_of (drop 1 found)

abbrev pub sheet_by : Option (List ℕ) → Option (List Line) → Result Sheet ℕ
sheet_by None found = Err 22
sheet_by (Some key) None = Err 23
sheet_by (Some key) (Some found) = Ok (record { key = key; lines = found })

abbrev pub sheet_of : List ℕ → Result Sheet ℕ
sheet_of text = sheet_by (key_of (first_line text)) (commands text)

-- the sheet that bytes are, or the first rule that they break: 21 where they are not UTF-8
abbrev pub read_by : Option (List ℕ) → Result Sheet ℕ
read_by None = Err 21
read_by (Some text) = sheet_of text

abbrev pub read : List ℕ → Result Sheet ℕ
read bytes = read_by (text_of bytes)
