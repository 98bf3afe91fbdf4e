-- Each string among the tokens of a text of JSON in UTF-8 stands for one in UTF-8.
use Rattle.std.proofs.Common.{◌≡◌, ℕ, ◌==◌, ◌&&◌, Bool, true, false, cond, List, [], ◌∷◌, ◌++◌, length, take, drop, Option, Some, None, refl, sym, subst, arith, append_assoc}
use Rattle.std.specs.Prelude.{nat_eq}
use Rattle.std.specs.List.{starts_with}
use Rattle.std.specs.Str.{IsUtf8}
use Rattle.json.specs.Ascii as ascii
use Rattle.json.specs.Token.{Token, begin_object, end_object, begin_array, end_array, key, string, number, boolean, null, bad}
use Rattle.json.specs.Text.{content, plain}
use Rattle.json.specs.Word.{is_operator, is_space, head, ends_word, number_before, literal, word, after_number}
use Rattle.json.specs.Lex.{Lexeme, token, comma, colon, Class, quote, backslash, operator, space, other, class, operator_lexeme, string_token, Mode, between, in_word, in_string, in_escape, lex_byte, lex, Place, fresh, after_value, after_comma, after_key, begins_colon, may_begin, may_close, if_allowed, place_token, punctuate, tokens}
use Rattle.law_read.proofs.ReadScripts.SourceContents.{beside, is_byte, content_is_text}

-- what a token stands for that is a string
abbrev pub IsText : Token → Type 0
IsText (key s) = IsUtf8 s
IsText (string s) = IsUtf8 s
IsText _ = Unit {0}

abbrev pub AreTexts : List Token → Type 0
AreTexts [] = Unit {0}
AreTexts (t ∷ ts) = IsText t × AreTexts ts

-- ---- lexemes

abbrev IsLexed : Lexeme → Type 0
IsLexed (token t) = IsText t
IsLexed comma = Unit {0}
IsLexed colon = Unit {0}

abbrev AreLexed : List Lexeme → Type 0
AreLexed [] = Unit {0}
AreLexed (l ∷ ls) = IsLexed l × AreLexed ls

one_token : (b : Bool) (x y : Token) → IsText x → IsText y → IsText (cond b x y)
one_token true x y h k = h
one_token false x y h k = k

one_lexeme : (b : Bool) (x y : Lexeme) → IsLexed x → IsLexed y → IsLexed (cond b x y)
one_lexeme true x y h k = h
one_lexeme false x y h k = k

number_text : (t : List ℕ) (o : Option (List ℕ)) → IsText (number_before t o)
number_text t None = tt
number_text t (Some rest) = one_token (ends_word rest) (number (take _ t)) bad tt tt

literal_text : (name : List ℕ) (x : Token) (t : List ℕ) → IsText x → IsText (literal name x t)
literal_text name x t h = one_token (starts_with nat_eq t name && ends_word (drop (length name) t)) x bad h tt

word_text : (t : List ℕ) → IsText (word t)
unfolding word
word_text t =
    let other = number_before t (after_number t) in
    let third = cond (head t == ascii.lower_n) (literal ascii.null_text null t) other in
    let second = cond (head t == ascii.lower_f) (literal ascii.false_text (boolean false) t) third in
    one_token (head t == ascii.lower_t) (literal ascii.true_text (boolean true) t) second (literal_text ascii.true_text (boolean true) t tt)
    (one_token (head t == ascii.lower_f) (literal ascii.false_text (boolean false) t) third (literal_text ascii.false_text (boolean false) t tt)
    (one_token (head t == ascii.lower_n) (literal ascii.null_text null t) other (literal_text ascii.null_text null t tt) (number_text t (after_number t))))

operator_text : (x : ℕ) → IsLexed (operator_lexeme x)
operator_text x =
    let fifth = cond (x == ascii.comma) comma colon in
    let fourth = cond (x == ascii.close_bracket) (token end_array) fifth in
    let third = cond (x == ascii.open_bracket) (token begin_array) fourth in
    let second = cond (x == ascii.close_brace) (token end_object) third in
    one_lexeme (x == ascii.open_brace) (token begin_object) second tt
    (one_lexeme (x == ascii.close_brace) (token end_object) third tt
    (one_lexeme (x == ascii.open_bracket) (token begin_array) fourth tt
    (one_lexeme (x == ascii.close_bracket) (token end_array) fifth tt (one_lexeme (x == ascii.comma) comma colon tt tt))))

string_text : (o : Option (List ℕ)) → ((s : List ℕ) → o ≡ Some s → IsUtf8 s) → IsText (string_token o)
string_text None h = tt
string_text (Some s) h = h s refl

quoted_is : (a b c d : Bool) → cond a quote (cond b backslash (cond c operator (cond d space other))) ≡ quote → a ≡ true
quoted_is true b c d e = refl
quoted_is false true c d e = absurd (cc)
quoted_is false false true d e = absurd (cc)
quoted_is false false false true e = absurd (cc)
quoted_is false false false false e = absurd (cc)

byte_lexed : (m : Mode) (c : Class) (x : ℕ) (xs : List ℕ) (k : Mode → List Lexeme) → (c ≡ quote → IsUtf8 xs) → ((next : Mode) → AreLexed (k next)) → AreLexed (lex_byte m c x xs k)
byte_lexed between quote x xs k u h = (string_text (content plain xs) (λ s e. content_is_text xs s (u refl) e), h in_string)
byte_lexed between backslash x xs k u h = (tt, h in_word)
byte_lexed between operator x xs k u h = (operator_text x, h between)
byte_lexed between space x xs k u h = h between
byte_lexed between other x xs k u h = (word_text (x ∷ xs), h in_word)
byte_lexed in_word quote x xs k u h = h in_word
byte_lexed in_word backslash x xs k u h = h in_word
byte_lexed in_word operator x xs k u h = (operator_text x, h between)
byte_lexed in_word space x xs k u h = h between
byte_lexed in_word other x xs k u h = h in_word
byte_lexed in_string quote x xs k u h = h between
byte_lexed in_string backslash x xs k u h = h in_escape
byte_lexed in_string operator x xs k u h = h in_string
byte_lexed in_string space x xs k u h = h in_string
byte_lexed in_string other x xs k u h = h in_string
byte_lexed in_escape c x xs k u h = h in_string

-- so are those behind a front that was read
lexed : (m : Mode) (front xs : List ℕ) → IsUtf8 (front ++ xs) → AreLexed (lex m xs)
unfolding lex
lexed m front [] u = tt
lexed m front (x ∷ xs) u =
    byte_lexed m (class x) x xs (λ next. lex next xs) (λ c. (beside front xs x u (is_byte x 34 (quoted_is (x == 34) (x == 92) (is_operator x) (is_space x) c) (omega arith))).1)
    (λ next. lexed next (front ++ x ∷ []) xs (subst IsUtf8 (sym (append_assoc front (x ∷ []) xs)) u))

-- ---- tokens

allowed : (b : Bool) (t : Token) (k : Place → List Token) (next : Place) → IsText t → AreTexts (k next) → AreTexts (if_allowed b t k next)
allowed true t k next h a = (h, a)
allowed false t k next h a = (tt, tt)

placed : (p : Place) (t : Token) (b : Bool) (k : Place → List Token) → IsText t → ((next : Place) → AreTexts (k next)) → AreTexts (place_token p t b k)
placed p begin_object b k h a = allowed (may_begin p) begin_object k fresh tt (a fresh)
placed p end_object b k h a = allowed (may_close p) end_object k after_value tt (a after_value)
placed p begin_array b k h a = allowed (may_begin p) begin_array k fresh tt (a fresh)
placed p end_array b k h a = allowed (may_close p) end_array k after_value tt (a after_value)
placed p (key s) b k h a = (tt, tt)
placed p (string s) true k h a = allowed (may_begin p) (key s) k after_key h (a after_key)
placed p (string s) false k h a = allowed (may_begin p) (string s) k after_value h (a after_value)
placed p (number s) b k h a = allowed (may_begin p) (number s) k after_value tt (a after_value)
placed p (boolean s) b k h a = allowed (may_begin p) (boolean s) k after_value tt (a after_value)
placed p null b k h a = allowed (may_begin p) null k after_value tt (a after_value)
placed p bad b k h a = (tt, tt)

punctuated : (ls : List Lexeme) (p : Place) → AreLexed ls → AreTexts (punctuate p ls)
unfolding punctuate
punctuated [] fresh h = tt
punctuated [] after_value h = tt
punctuated [] after_comma h = (tt, tt)
punctuated [] after_key h = (tt, tt)
punctuated (token t ∷ ls) fresh h = placed fresh t (begins_colon ls) (λ next. punctuate next ls) h.0 (λ next. punctuated ls next h.1)
punctuated (token t ∷ ls) after_value h = placed after_value t (begins_colon ls) (λ next. punctuate next ls) h.0 (λ next. punctuated ls next h.1)
punctuated (token t ∷ ls) after_comma h = placed after_comma t (begins_colon ls) (λ next. punctuate next ls) h.0 (λ next. punctuated ls next h.1)
punctuated (token t ∷ ls) after_key h = placed after_key t (begins_colon ls) (λ next. punctuate next ls) h.0 (λ next. punctuated ls next h.1)
punctuated (comma ∷ ls) fresh h = (tt, tt)
punctuated (comma ∷ ls) after_value h = punctuated ls after_comma h.1
punctuated (comma ∷ ls) after_comma h = (tt, tt)
punctuated (comma ∷ ls) after_key h = (tt, tt)
punctuated (colon ∷ ls) fresh h = (tt, tt)
punctuated (colon ∷ ls) after_value h = (tt, tt)
punctuated (colon ∷ ls) after_comma h = (tt, tt)
punctuated (colon ∷ ls) after_key h = punctuated ls fresh h.1

pub tokens_are_texts : (text : List ℕ) → IsUtf8 text → AreTexts (tokens text)
tokens_are_texts text u = punctuated (lex between text) fresh (lexed between [] text u)
