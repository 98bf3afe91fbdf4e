-- what is left of the tokens so far, and then of the others, is what is left of all
use Rattle.std.proofs.Common.{◌≡◌, ◌++◌, [], false, drop}
use Rattle.std.specs.Prelude.{reverse}
use Rattle.ev_lexer.specs.LineEnds.{kept}
use Rattle.ev_lexer.proofs.line_ends.drop_line_ends.Given as goal

abbrev pub invariant-loop-token : goal.invariant-loop-token
invariant-loop-token l = l.left.items ++ kept (reverse l.brackets.items) l.joined (drop l.token-index l.tokens) ≡ kept [] false l.tokens
