-- How texts and characters are written between quotes.
use Rattle.std.specs.Prelude.{ℕ, ◌-◌, ◌/◌, ◌%◌, ◌==◌, nat_lt, nat_le, if◌then◌else◌, List, [], ◌∷◌, ◌++◌, length, take, flat_map, decimal, chars, encode_utf8, encode_utf8_all}
use Rattle.std.specs.Char.{digit_char}

-- `\u` and the four digits of a number below 256
abbrev pub by_number : ℕ → List ℕ
by_number c = 92 ∷ 117 ∷ 48 ∷ 48 ∷ digit_char (c / 16) ∷ digit_char (c % 16) ∷ []

-- a byte of a text, as it stands between the quotes: `\n`, `\t`, `\r`, `\\`, `\"`, another control character by its number
abbrev pub escaped : ℕ → List ℕ
escaped b =
    if b == 10 then 92 ∷ 110 ∷ []
    else if b == 9 then 92 ∷ 116 ∷ []
    else if b == 13 then 92 ∷ 114 ∷ []
    else if b == 92 then 92 ∷ 92 ∷ []
    else if b == 34 then 92 ∷ 34 ∷ []
    else if nat_lt b 32 then by_number b
    else b ∷ []

-- a text between `"`
abbrev pub quoted : List ℕ → List ℕ
quoted text = 34 ∷ (flat_map escaped text ++ 34 ∷ [])

-- a character of a text, as it stands between the quotes
abbrev pub escaped_character : ℕ → List ℕ
escaped_character c = if nat_lt c 128 then escaped c else encode_utf8 c

-- a character between `'`, where `'` has an escape too
abbrev pub quoted_character : ℕ → List ℕ
quoted_character c = 39 ∷ ((if c == 39 then 92 ∷ 39 ∷ [] else escaped_character c) ++ 39 ∷ [])

-- how many characters of a text a line shows
abbrev pub shown_length : ℕ
shown_length = 32

-- a text in a line: its first 32 characters, and behind the quotes how many more there are
abbrev pub shortened_characters : List ℕ → List ℕ → List ℕ
shortened_characters text characters =
    if nat_le (length characters) shown_length then quoted text
    else quoted (encode_utf8_all (take shown_length characters)) ++ 43 ∷ decimal (length characters - shown_length)

abbrev pub shortened : List ℕ → List ℕ
shortened text = shortened_characters text (chars text)
