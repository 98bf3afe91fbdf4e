-- How lines, words and numbers are spelled.
use Rattle.std.specs.Prelude.{ℕ, ℤ, pos, neg_ℤ, ◌^◌, ◌-◌, ◌==◌, nat_le, nat_lt, Bool, false, not, ◌&&◌, ◌||◌, if◌then◌else◌, List, [], ◌∷◌, length, take, slice_index_or, Some, None, option_map}
use Rattle.std.specs.declared.option.Option.{Option}
use Rattle.std.specs.Int.{w128, from_le_bytes}
use Rattle.std.specs.List.{list_all, position_or_len, before_first, after_first, slice_split}
use Rattle.std.specs.Result.{result_ok}
use Rattle.std.specs.Str.{all_ascii_digits, is_utf8}
use Rattle.std.specs.Str.Parse.{digits_value}
use Rattle.hex.specs.Hex.{decode_sized}

-- ---- texts

-- the text that bytes are, where they are UTF-8
abbrev pub text_of : List ℕ → Option (List ℕ)
text_of bytes = if is_utf8 bytes then Some bytes else None

-- ---- lines

abbrev pub is_line_feed : ℕ → Bool
is_line_feed c = c == 10

-- all parts but the last, where the last is empty
abbrev pub ended : List (List ℕ) → Option (List (List ℕ))
ended parts = if length (slice_index_or parts (length parts - 1) []) == 0 then Some (take (length parts - 1) parts) else None

-- the lines of a text, each of which ends with a line feed, and none where something stands behind the last line feed
abbrev pub lines : List ℕ → Option (List (List ℕ))
lines text = ended (slice_split is_line_feed text)

-- ---- words: one space stands between two

abbrev pub is_space : ℕ → Bool
is_space c = c == 32

-- the text before the first space, and the text behind it
abbrev pub split : List ℕ → Option (List ℕ × List ℕ)
split text = if nat_lt (position_or_len is_space text) (length text) then Some (before_first is_space text, after_first is_space text) else None

-- ---- numbers: decimal, without a leading zero but in `0` itself

abbrev pub begins_with_zero : List ℕ → Bool
begins_with_zero [] = false
begins_with_zero (c ∷ cs) = c == 48

abbrev pub is_numeral : List ℕ → Bool
is_numeral text = all_ascii_digits text && (length text == 1 || not (begins_with_zero text))

abbrev pub bounded : ℕ → List ℕ → Option ℕ
bounded most digits = if nat_lt 0 (length digits) && nat_le (digits_value 10 digits) most then Some (digits_value 10 digits) else None

-- the number that a text spells, where it is not above the greatest
abbrev pub number : ℕ → List ℕ → Option ℕ
number most text = if is_numeral text then bounded most text else None

-- an integer of 128 bits, with `-` before a number that is not 0
abbrev pub positive : List ℕ → Option ℕ
positive digits = if begins_with_zero digits then None else number (2 ^ 127) digits

abbrev pub integer : List ℕ → Option ℤ
integer [] = None
integer (c ∷ cs) = if c == 45 then option_map (λ n. neg_ℤ (pos n)) (positive cs) else option_map pos (number (2 ^ 127 - 1) (c ∷ cs))

-- ---- bytes, each as two digits out of 0 to 9 and a to f, the higher first

abbrev pub is_lower_digit : ℕ → Bool
is_lower_digit c = (nat_le 48 c && nat_le c 57) || (nat_le 97 c && nat_le c 102)

-- the bytes that a text spells, where they are so many
abbrev pub bytes : ℕ → List ℕ → Option (List ℕ)
bytes count text = if list_all is_lower_digit text then result_ok (decode_sized text count) else None

-- the number of 128 bits whose bytes a text spells, the lowest first
abbrev pub spelled_number : List ℕ → Option ℕ
spelled_number text = option_map (from_le_bytes w128) (bytes 16 text)
