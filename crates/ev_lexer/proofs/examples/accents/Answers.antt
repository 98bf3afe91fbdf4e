use Rattle.std.proofs.Common.{refl}
use Rattle.ev_lexer.specs.Examples.{opened_characters}
use Rattle.ev_lexer.proofs.examples.accents.Goals as goal

pub returns : goal.returns
unfolding opened_characters
returns c = (refl, refl)
