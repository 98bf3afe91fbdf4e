-- What stands at the front of a text: white space and comments, a token, or the first fault.
use Rattle.std.specs.Prelude.{ℕ, zero, suc, ◌+◌, ◌==◌, ◌&&◌, ◌||◌, not, Bool, true, false, if◌then◌else◌, List, [], ◌∷◌, length, take, Some, None, option_map, is_some, chars, encode_utf8_all}
use Rattle.std.specs.declared.option.Option.{Option}
use Rattle.std.specs.List.{prefix_len}
use Rattle.std.specs.Char.{is_ascii_digit}
use Rattle.def_syntax.specs.declared.token.TokenKind.{TokenKind}
use Rattle.def_syntax.specs.declared.token.TokenKind.TheVariants.{LineEnd, Number, Text, Character}
use Rattle.ev_text.specs.Unquoting.{escape}
use Rattle.def_text.specs.Keywords.{begins_identifier, continues_identifier}
use Rattle.ev_integer.specs.Numerals.{number_of}
use Rattle.ev_lexer.specs.declared.pieces.Piece.{Piece}
use Rattle.ev_lexer.specs.declared.pieces.Piece.TheVariants.{Blank, Whole, Fault}
use Rattle.ev_lexer.specs.declared.pieces.Start.{Start}
use Rattle.ev_lexer.specs.declared.pieces.Start.TheVariants.{Space, LineFeed, CarriageReturn, Backslash, Hash, Slash, Quote, Apostrophe, Digit, Other}
use Rattle.ev_lexer.specs.Words.{word_kind, longest_operator}

-- the kinds of fault: a character that begins no token, an unclosed text or character, a bad escape or a character literal
-- that is not one character, a number above the greatest integer, an unclosed comment
abbrev pub begins_nothing : ℕ
begins_nothing = 1

abbrev pub unclosed_literal : ℕ
unclosed_literal = 2

abbrev pub bad_literal : ℕ
bad_literal = 3

abbrev pub great_number : ℕ
great_number = 4

abbrev pub unclosed_comment : ℕ
unclosed_comment = 5

-- what a byte begins
abbrev pub start : ℕ → Start
start b =
    if (b == 32) || (b == 9) then Space
    else if b == 10 then LineFeed
    else if b == 13 then CarriageReturn
    else if b == 92 then Backslash
    else if b == 35 then Hash
    else if b == 47 then Slash
    else if b == 34 then Quote
    else if b == 39 then Apostrophe
    else if is_ascii_digit b then Digit
    else Other

-- how long a line end at the front is: a line feed, or a carriage return with a line feed behind it
abbrev pub line_end : List ℕ → Option ℕ
line_end [] = None
line_end (a ∷ []) = if a == 10 then Some 1 else None
line_end (a ∷ b ∷ more) = if a == 10 then Some 1 else if (a == 13) && (b == 10) then Some 2 else None

-- white space or a fault, by the line end that has to stand there: a carriage return before a line feed, and a backslash with
-- the line end behind it
abbrev pub blank_before : Option ℕ → Piece
blank_before None = Fault begins_nothing 0
blank_before (Some ended) = Blank 1

abbrev pub blank_with : Option ℕ → Piece
blank_with None = Fault begins_nothing 0
blank_with (Some ended) = Blank (1 + ended)

-- how many bytes stand up to and with the first `*/`
unfoldable pub comment_end : List ℕ → Option ℕ
comment_end [] = None
comment_end (a ∷ []) = None
comment_end (a ∷ b ∷ more) = if (a == 42) && (b == 47) then Some 2 else option_map suc (comment_end (b ∷ more))

abbrev pub commented : Option ℕ → Piece
commented None = Fault unclosed_comment 0
commented (Some n) = Blank (3 + n)

-- how many bytes stand before the closing quote: a backslash hides the one character behind it, which is no quote of the
-- literal
unfoldable pub closing : ℕ → List ℕ → Option ℕ
closing mark [] = None
closing mark (a ∷ []) = if a == mark then Some 0 else None
closing mark (a ∷ b ∷ more) =
    if a == mark then Some 0
    else if a == 92 then option_map (λ n. suc (suc n)) (closing mark more)
    else option_map suc (closing mark (b ∷ more))

-- how many of these bytes the escape takes whose backslash stands before them
abbrev pub escape_length : List ℕ → Option ℕ
escape_length bytes = option_map (λ (found : ℕ × ℕ). found.1) (escape bytes)

-- the place of the first backslash that begins no escape; so many bytes belong to an escape that was read
unfoldable pub bad_escape : ℕ → List ℕ → Option ℕ
bad_escape passed [] = None
bad_escape (suc passed) (b ∷ more) = option_map suc (bad_escape passed more)
bad_escape zero (b ∷ more) =
    if b == 92 then (elim (escape_length more) [ None ↦ Some 0 | Some n ↦ option_map suc (bad_escape n more) ])
    else option_map suc (bad_escape zero more)

-- whether what stands between the quotes, without a bad escape, is one character
abbrev pub is_one : List ℕ → Bool
is_one [] = false
is_one (b ∷ more) =
    if b == 92 then (elim (escape_length more) [ None ↦ false | Some n ↦ length more == n ])
    else length (chars (b ∷ more)) == 1

-- a literal, by what stands between its quotes
abbrev pub literal : TokenKind → Bool → Option ℕ → ℕ → Piece
literal kind is_right (Some place) n = Fault bad_literal (1 + place)
literal kind true None n = Whole kind (2 + n)
literal kind false None n = Fault bad_literal 0

-- a text, by what stands behind its opening quote and how much of it before the closing one
abbrev pub text_of : List ℕ → Option ℕ → Piece
text_of more None = Fault unclosed_literal 0
text_of more (Some n) = literal Text true (bad_escape 0 (take n more)) n

abbrev pub character_of : List ℕ → Option ℕ → Piece
character_of more None = Fault unclosed_literal 0
character_of more (Some n) = literal Character (is_one (take n more)) (bad_escape 0 (take n more)) n

-- a number of these digits
abbrev pub number : List ℕ → Piece
number digits = if is_some (number_of digits) then Whole Number (length digits) else Fault great_number 0

abbrev pub operator : Option (TokenKind × ℕ) → Piece
operator None = Fault begins_nothing 0
operator (Some found) = Whole found.0 found.1

-- a comment between `/**` and `*/`, or an operator, by what stands behind a `/`
abbrev pub slashed : List ℕ → List ℕ → Piece
slashed text [] = operator (longest_operator text)
slashed text (a ∷ []) = operator (longest_operator text)
slashed text (a ∷ b ∷ inside) = if (a == 42) && (b == 42) then commented (comment_end inside) else operator (longest_operator text)

-- the longest word with which a text of these characters begins: the first, and those that go on
abbrev pub front_word : ℕ → List ℕ → List ℕ
front_word c cs = encode_utf8_all (c ∷ take (prefix_len continues_identifier cs) cs)

abbrev pub word : List ℕ → Piece
word spelling = Whole (word_kind spelling) (length spelling)

-- a word, where the first character begins one, or an operator
abbrev pub word_or_operator : List ℕ → List ℕ → Piece
word_or_operator text [] = operator (longest_operator text)
word_or_operator text (c ∷ cs) = if begins_identifier c then word (front_word c cs) else operator (longest_operator text)

-- the piece at the front of a text, by what its first byte begins and by what stands behind that
abbrev pub piece_of : Start → List ℕ → List ℕ → Piece
piece_of Space text more = Blank 1
piece_of LineFeed text more = Whole LineEnd 1
piece_of CarriageReturn text more = blank_before (line_end text)
piece_of Backslash text more = blank_with (line_end more)
piece_of Hash text more = Blank (1 + prefix_len (λ c. not (c == 10)) more)
piece_of Slash text more = slashed text more
piece_of Quote text more = text_of more (closing 34 more)
piece_of Apostrophe text more = character_of more (closing 39 more)
piece_of Digit text more = number (take (prefix_len is_ascii_digit text) text)
piece_of Other text more = word_or_operator text (chars text)

-- what stands at the front of a text that has some byte
unfoldable pub piece : List ℕ → Piece
piece [] = Fault begins_nothing 0
piece (b ∷ more) = piece_of (start b) (b ∷ more) more
