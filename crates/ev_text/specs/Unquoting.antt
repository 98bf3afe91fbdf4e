-- What a text between quotes stands for, and the place of its first fault.
use Rattle.std.specs.Prelude.{◌≡◌, String, string_bytes, ℕ, zero, suc, ◌+◌, ◌*◌, Bool, ◌&&◌, not, ◌==◌, nat_lt, if◌then◌else◌, List, [], ◌∷◌, ◌++◌, Option, Some, None, option_map, option_and_then, Result, Ok, Err, encode_utf8}
use Rattle.std.specs.Char.{digit_value}
use lib.Utf8.{scalar}
use Rattle.std.specs.declared.alloc.Global.{Global}
use Rattle.ev_text.specs.declared.spellings.EscapeFault.{EscapeFault}
use Rattle.ev_text.specs.declared.spellings.EscapeFault.TheVariants.{At, Memory}

-- the character of an escape of one letter: `n`, `t`, `r`, `\`, `"` and `'`
abbrev pub named : ℕ → Option ℕ
named letter =
    if letter == 110 then Some 10
    else if letter == 116 then Some 9
    else if letter == 114 then Some 13
    else if letter == 92 then Some 92
    else if letter == 34 then Some 34
    else if letter == 39 then Some 39
    else None

-- the numbers of two, three and four hexadecimal digits, of small or capital letters
abbrev pub two_digits : ℕ → ℕ → Option ℕ
two_digits a b = if nat_lt (digit_value a) 16 && nat_lt (digit_value b) 16 then Some (digit_value a * 16 + digit_value b) else None

abbrev pub three_digits : ℕ → ℕ → ℕ → Option ℕ
three_digits a b c =
    if nat_lt (digit_value a) 16 && nat_lt (digit_value b) 16 && nat_lt (digit_value c) 16
    then Some ((digit_value a * 16 + digit_value b) * 16 + digit_value c)
    else None

abbrev pub hexadecimal : ℕ → ℕ → ℕ → ℕ → Option ℕ
hexadecimal a b c d =
    if nat_lt (digit_value a) 16 && nat_lt (digit_value b) 16 && nat_lt (digit_value c) 16 && nat_lt (digit_value d) 16
    then Some (((digit_value a * 16 + digit_value b) * 16 + digit_value c) * 16 + digit_value d)
    else None

-- a character and how many bytes behind the backslash stand for it, where the number is that of a character
abbrev pub numbered : ℕ → Option (ℕ × ℕ)
numbered n = if scalar n then Some (n, 5) else None

abbrev pub by_digits : List ℕ → Option (ℕ × ℕ)
by_digits (a ∷ b ∷ c ∷ d ∷ more) = option_and_then numbered (hexadecimal a b c d)
by_digits _ = None

-- the character of the escape that these bytes follow the backslash of, and how many of them it takes
abbrev pub escape : List ℕ → Option (ℕ × ℕ)
escape [] = None
escape (letter ∷ more) = if letter == 117 then by_digits more else option_map (λ c. (c, 1)) (named letter)

-- what a byte does in a text
pub data Mark : Type 0 where
  closes : Mark
  begins_escape : Mark
  stands_for_itself : Mark

abbrev pub mark : ℕ → Mark
mark b = if b == 34 then closes else if b == 92 then begins_escape else stands_for_itself

-- the byte stands for itself
abbrev pub is_plain : ℕ → Bool
is_plain b = not (b == 34) && not (b == 92)

-- the text of what stands behind these bytes put before it
abbrev pub with_front : List ℕ → Result (List ℕ) ℕ → Result (List ℕ) ℕ
with_front front (Ok text) = Ok (front ++ text)
with_front front (Err place) = Err place

-- the closing quote is the last byte, or what stands behind it, at this place, is not allowed
abbrev pub closed : ℕ → List ℕ → Result (List ℕ) ℕ
closed place [] = Ok []
closed place (b ∷ more) = Err place

-- What these bytes spell, which stand behind the opening quote from this place on; so many of them belong to an escape
-- that was read. The first fault is an escape that is none, at its backslash, an end without a closing quote, or what
-- stands behind the closing quote.
unfoldable pub text_behind : ℕ → ℕ → List ℕ → Result (List ℕ) ℕ
text_behind passed place [] = Err place
text_behind (suc passed) place (b ∷ more) = text_behind passed (suc place) more
text_behind zero place (b ∷ more) = elim (mark b) [
  | closes ↦ closed (suc place) more
  | begins_escape ↦ elim (escape more) [
    | None ↦ Err place
    | Some found ↦ with_front (encode_utf8 found.0) (text_behind found.1 (suc place) more)
  ]
  | stands_for_itself ↦ with_front (b ∷ []) (text_behind zero (suc place) more)
]

-- what a text token spells, or the place of the first fault
abbrev pub unquoted : List ℕ → Result (List ℕ) ℕ
unquoted [] = Err 0
unquoted (b ∷ more) = if b == 34 then text_behind zero 1 more else Err 0

-- the answer is that of the definition, unless memory runs out
abbrev pub Answers : Result (String Global) EscapeFault → Result (List ℕ) ℕ → Type 0
Answers (Ok text) due = due ≡ Ok (string_bytes text)
Answers (Err (At place)) due = due ≡ Err place
Answers (Err Memory) due = Unit {0}
