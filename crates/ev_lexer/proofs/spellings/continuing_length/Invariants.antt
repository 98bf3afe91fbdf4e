-- what was passed, and what goes on in the rest, is what goes on in the text
use Rattle.std.specs.Str.Iter.{chars_rest}
use Rattle.ev_lexer.proofs.Fronts.{Goes}
use Rattle.ev_lexer.proofs.spellings.continuing_length.Given as goal

abbrev pub invariant-loop-c : goal.invariant-loop-c
invariant-loop-c l = Goes l.length (chars_rest l.c-iterator) l.text
