-- The words of a refusal.
use Rattle.std.specs.Prelude.{ℕ, List, ◌++◌, ◌∷◌, codes, decimal}
use Rattle.ev_reader.specs.declared.fault.Stage.{Stage}
use Rattle.ev_reader.specs.declared.fault.Stage.TheVariants.{Lex, Parse, Nested, Expand, Scope}
use Rattle.ev_reader.specs.declared.fault.ProgramFault.{ProgramFault}
use Rattle.ev_reader.specs.declared.fault.ProgramFault.TheVariants.{At, Memory}

abbrev pub word_of : Stage → List ℕ
word_of Lex = codes "lex"
word_of Parse = codes "parse"
word_of Nested = codes "nested"
word_of Expand = codes "expand"
word_of Scope = codes "scope"

abbrev pub fault_text : ProgramFault → List ℕ
fault_text (At stage kind place) = word_of stage ++ 32 ∷ (decimal kind ++ 32 ∷ decimal place)
fault_text Memory = codes "out of memory"
