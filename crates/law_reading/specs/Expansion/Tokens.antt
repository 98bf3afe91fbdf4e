-- What the tokens of a text are, and what a text is read as.
use Rattle.std.specs.Prelude.{◌≡◌, ℕ, List, Ok}
use Rattle.std.specs.Str.{IsUtf8}
use Rattle.def_syntax.specs.declared.token.Token.{Token}
use Rattle.def_kernel.specs.Trees.{IsTree}
use Rattle.ev_lexer.specs.Lexed.{lexed}
use Rattle.law_reading.specs.Expansion.Expansions.{AreSpelled}
use Rattle.ev_reader.specs.declared.accepted.Scoped.{Scoped}
use Rattle.ev_reader.specs.Program.{Answers}

-- Law: the tokens of a text in UTF-8 are spelled as their kinds say.
abbrev pub TokensAreSpelled : Type 0
TokensAreSpelled = (text : List ℕ) (tokens : List Token) → IsUtf8 text → lexed text ≡ Ok tokens → AreSpelled text tokens

-- Law: a text in UTF-8 that is read as a program is a kernel tree, whatever names it is given.
abbrev pub WhatIsReadIsATree : Type 0
WhatIsReadIsATree = (text : List ℕ) (given : List (List ℕ)) (scoped : Scoped) → IsUtf8 text → Answers (Ok scoped) text given → IsTree scoped.tree
