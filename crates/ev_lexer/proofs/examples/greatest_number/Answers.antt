use Rattle.std.proofs.Common.{refl}
use Rattle.ev_lexer.specs.Examples.{opened_lexer}
use Rattle.ev_lexer.proofs.examples.greatest_number.Goals as goal

pub returns : goal.returns
unfolding opened_lexer
returns c = (refl, refl)
