-- What the words of a surface tree stand for: operators are verbs, and literals are read.
use Rattle.std.specs.Prelude.{ℕ, ℤ, pos, ◌==◌, if◌then◌else◌, List, [], ◌∷◌, ◌++◌, codes, Option, Some, None, Result, Ok, Err}
use Rattle.std.specs.Str.{bytes_eq, chars}
use Rattle.ev_integer.specs.Numerals.{number_of}
use Rattle.std.specs.Char.{encode_utf8}
use Rattle.ev_text.specs.Unquoting.{unquoted, text_behind}

abbrev pub Words : Type 0
Words = List ℕ

-- the verb of an arithmetic operator
unfoldable pub arithmetic : Words → Option Words
arithmetic op =
    if bytes_eq op (codes "+") then Some (codes "add")
    else if bytes_eq op (codes "-") then Some (codes "subtract")
    else if bytes_eq op (codes "*") then Some (codes "multiply")
    else if bytes_eq op (codes "//") then Some (codes "floorDivide")
    else if bytes_eq op (codes "%") then Some (codes "remainder")
    else if bytes_eq op (codes "%%") then Some (codes "mod")
    else if bytes_eq op (codes "**") then Some (codes "pow")
    else if bytes_eq op (codes "&") then Some (codes "and")
    else if bytes_eq op (codes "|") then Some (codes "or")
    else if bytes_eq op (codes "^") then Some (codes "xor")
    else None

-- the verb of an operator that assigns, other than `:=`
unfoldable pub updating : Words → Option Words
updating op =
    if bytes_eq op (codes "+=") then Some (codes "add")
    else if bytes_eq op (codes "-=") then Some (codes "subtract")
    else if bytes_eq op (codes "*=") then Some (codes "multiply")
    else if bytes_eq op (codes "//=") then Some (codes "floorDivide")
    else if bytes_eq op (codes "%=") then Some (codes "remainder")
    else if bytes_eq op (codes "%%=") then Some (codes "mod")
    else if bytes_eq op (codes "**=") then Some (codes "pow")
    else if bytes_eq op (codes "&=") then Some (codes "and")
    else if bytes_eq op (codes "|=") then Some (codes "or")
    else if bytes_eq op (codes "^=") then Some (codes "xor")
    else None

-- the verb of an operator that compares
unfoldable pub comparing : Words → Option Words
comparing op =
    if bytes_eq op (codes "<") then Some (codes "lessThan")
    else if bytes_eq op (codes "<=") then Some (codes "leq")
    else if bytes_eq op (codes "<=>") then Some (codes "asBigAs")
    else if bytes_eq op (codes ">=") then Some (codes "geq")
    else if bytes_eq op (codes ">") then Some (codes "greaterThan")
    else None

-- the verb of a range: `..` or `..!`
unfoldable pub ranging : Words → Words
ranging op = if bytes_eq op (codes "..") then codes "through" else codes "till"

-- the verb of a prefix: `-` or `!`
unfoldable pub prefixing : Words → Words
prefixing op = if bytes_eq op (codes "-") then codes "negate" else codes "not"

-- the name of the ejector that a `return`, `break` or `continue` calls
unfoldable pub ejector : Words → Words
ejector word = codes "__" ++ word

-- the number of a row of digits; no token is another row
unfoldable pub number_found : Option ℤ → ℤ
number_found None = pos 0
number_found (Some z) = z

unfoldable pub number : Words → ℤ
number s = number_found (number_of s)

-- the text of a text token; no token is another one
unfoldable pub text_found : Result Words ℕ → Words
text_found (Ok t) = t
text_found (Err place) = []

unfoldable pub text : Words → Words
text s = text_found (unquoted s)

-- the verb that is an identifier or a text
unfoldable pub verb_behind : Words → Words
verb_behind [] = []
verb_behind (b ∷ v) = if b == 34 then text (b ∷ v) else b ∷ v

-- the first character of a text
unfoldable pub first_of : List ℕ → ℕ
first_of [] = 0
first_of (c ∷ cs) = c

-- the text of an escape that is followed so; what stands behind the escape follows it
unfoldable pub escape_text : Words → Words
escape_text behind = text (34 ∷ behind ++ 34 ∷ [])

-- the character behind the opening quote of a character token: an escape, or that character itself
unfoldable pub character_behind : Words → ℕ
character_behind [] = 0
character_behind (b ∷ s) = if b == 92 then first_of (chars (escape_text (b ∷ s))) else first_of (chars (b ∷ s))

unfoldable pub character : Words → ℕ
character [] = 0
character (b ∷ s) = if b == 39 then character_behind s else 0

unfoldable pub opened_words : Unit {0}
unfolding arithmetic updating comparing ranging prefixing ejector number_found number text_found text verb_behind first_of escape_text character_behind character chars text_behind encode_utf8
opened_words = tt
