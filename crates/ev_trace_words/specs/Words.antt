-- The words of a line. One space stands between two; a space between quotes or brackets belongs to its word.
use Rattle.std.specs.Prelude.{ℕ, ◌+◌, ◌-◌, ◌==◌, Bool, true, false, ◌&&◌, if◌then◌else◌, List, [], ◌∷◌, ◌++◌}
use Rattle.ev_trace_words.specs.declared.words.Quote.{Quote}
use Rattle.ev_trace_words.specs.declared.words.Quote.TheVariants.{Outside, InText, InCharacter, EscapedText, EscapedCharacter}

-- whether the next byte stands in a text, in a character, or behind a backslash in one of these, once this byte was read
abbrev pub behind_quote : Quote → ℕ → Quote
behind_quote Outside b = if b == 34 then InText else if b == 39 then InCharacter else Outside
behind_quote InText b = if b == 92 then EscapedText else if b == 34 then Outside else InText
behind_quote InCharacter b = if b == 92 then EscapedCharacter else if b == 39 then Outside else InCharacter
behind_quote EscapedText b = InText
behind_quote EscapedCharacter b = InCharacter

-- how many brackets are open once this byte was read
abbrev pub behind_depth : Quote → ℕ → ℕ → ℕ
behind_depth Outside depth b = if b == 91 then depth + 1 else if b == 93 then depth - 1 else depth
behind_depth _ depth b = depth

abbrev pub is_outside : Quote → Bool
is_outside Outside = true
is_outside _ = false

-- the byte ends a word
abbrev pub ends_word : Quote → ℕ → ℕ → Bool
ends_word quote depth b = b == 32 && is_outside quote && depth == 0

-- the words of what is left of a line, of which the first began with these bytes
unfoldable pub words_from : Quote → ℕ → List ℕ → List ℕ → List (List ℕ)
words_from quote depth word [] = word ∷ []
words_from quote depth word (b ∷ bs) =
    if ends_word quote depth b then word ∷ words_from quote depth [] bs
    else words_from (behind_quote quote b) (behind_depth quote depth b) (word ++ b ∷ []) bs

abbrev pub words_of : List ℕ → List (List ℕ)
words_of line = words_from Outside 0 [] line
