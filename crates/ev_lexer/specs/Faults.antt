-- What is said of a text that has no tokens.
use Rattle.std.specs.Prelude.{ℕ, List, ◌++◌, codes, decimal}
use Rattle.ev_lexer.specs.declared.lexing.LexFault.{LexFault}
use Rattle.ev_lexer.specs.declared.lexing.LexFault.TheVariants.{At, Memory}

abbrev pub fault_text : LexFault → List ℕ
fault_text (At kind offset) = codes "fault " ++ decimal kind ++ codes " at " ++ decimal offset
fault_text Memory = codes "out of memory"
