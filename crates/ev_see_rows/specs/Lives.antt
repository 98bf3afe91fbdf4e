-- What is kept of the lines of a history.
use Rattle.std.specs.Prelude.{◌≡◌, ℕ, List}
use Rattle.def_see.specs.declared.line.Line.{Line}
use Rattle.def_see.specs.Lines.{life}
use Rattle.ev_see_lives.specs.declared.lives.Lives.{Lives}
use Rattle.ev_see_lives.specs.Lives.{numbers_of}

-- the numbers that are kept for each name are those of the lines about it
abbrev pub IsLives : List Line → Lives → Type 0
IsLives lines lives = (q : List ℕ) → numbers_of lives q ≡ life lines q
