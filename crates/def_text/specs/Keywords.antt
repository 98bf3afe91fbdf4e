-- Which words are identifiers.
use Rattle.std.specs.Prelude.{ℕ, Bool, false, ◌&&◌, ◌||◌, not, ◌==◌, nat_lt, if◌then◌else◌, List, [], ◌∷◌, codes, chars, bytes_eq}
use Rattle.std.specs.List.{list_any, list_all}
use Rattle.std.specs.Char.{is_ascii_alphabetic, is_ascii_alphanumeric}
use Rattle.unicode_ident.specs.Ident.{is_xid_start, is_xid_continue}
use Rattle.def_text.specs.Quoting.{quoted}

abbrev pub keywords : List (List ℕ)
keywords =
    codes "break" ∷ codes "catch" ∷ codes "continue" ∷ codes "def" ∷ codes "else" ∷ codes "escape" ∷ codes "exit"
    ∷ codes "finally" ∷ codes "fn" ∷ codes "for" ∷ codes "if" ∷ codes "implements" ∷ codes "in" ∷ codes "match"
    ∷ codes "method" ∷ codes "return" ∷ codes "to" ∷ codes "try" ∷ codes "var" ∷ codes "via" ∷ codes "when"
    ∷ codes "while" ∷ []

abbrev pub is_keyword : List ℕ → Bool
is_keyword word = list_any (bytes_eq word) keywords

-- a character with which an identifier may begin, and one with which it may go on; below 128 as letters and digits, so
-- that a word in ASCII is told without the table of Unicode
abbrev pub begins_identifier : ℕ → Bool
begins_identifier c = (if nat_lt c 128 then is_ascii_alphabetic c else is_xid_start c) || (c == 95)

abbrev pub continues_identifier : ℕ → Bool
continues_identifier c = if nat_lt c 128 then is_ascii_alphanumeric c || (c == 95) else is_xid_continue c

abbrev pub has_identifier_form : List ℕ → Bool
has_identifier_form [] = false
has_identifier_form (c ∷ cs) = begins_identifier c && list_all continues_identifier cs

-- a word that is an identifier: it has the form, and is neither a keyword nor a lone `_`
abbrev pub is_identifier : List ℕ → Bool
is_identifier word = has_identifier_form (chars word) && not (is_keyword word) && not (bytes_eq word (codes "_"))

-- a verb: bare where it is an identifier, else as a text
abbrev pub printed_verb : List ℕ → List ℕ
printed_verb verb = if is_identifier verb then verb else quoted verb
