-- What the words of a command ask.
use Rattle.std.specs.Prelude.{ℕ, ◌&&◌, if◌then◌else◌, List, [], ◌∷◌, codes}
use Rattle.std.specs.Str.{bytes_eq}
use Rattle.ev_see_top.specs.declared.question.Question.{Question}
use Rattle.ev_see_top.specs.declared.question.Question.TheVariants.{Help, Version, Messages, Draw, Why, Strict, Unknown}

unfoldable pub word_asks : List ℕ → Question
word_asks word =
    if bytes_eq word (codes "--help") then Help
    else if bytes_eq word (codes "--version") then Version
    else if bytes_eq word (codes "messages") then Messages
    else if bytes_eq word (codes "draw") then Draw
    else if bytes_eq word (codes "why") then Why
    else Unknown

unfoldable pub words_ask : List ℕ → List ℕ → Question
words_ask first second = if bytes_eq first (codes "why") && bytes_eq second (codes "--strict") then Strict else Unknown

unfoldable pub question_of : List (List ℕ) → Question
question_of (word ∷ []) = word_asks word
question_of (first ∷ second ∷ []) = words_ask first second
question_of _ = Unknown
