-- What the words of a command ask.
use Rattle.std.specs.Prelude.{ℕ, if◌then◌else◌, List, [], ◌∷◌, codes}
use Rattle.std.specs.Str.{bytes_eq}
use Rattle.ev_make_top.specs.declared.question.Question.{Question}
use Rattle.ev_make_top.specs.declared.question.Question.TheVariants.{Help, Version, Script, Unknown}

unfoldable pub word_asks : List ℕ → Question
word_asks word =
    if bytes_eq word (codes "--help") then Help
    else if bytes_eq word (codes "--version") then Version
    else if bytes_eq word (codes "script") then Script
    else Unknown

unfoldable pub question_of : List (List ℕ) → Question
question_of (word ∷ []) = word_asks word
question_of _ = Unknown
