use Rattle.std.proofs.Common.{sym}
use Rattle.ev_desugar.proofs.Lengths.{no_quote}
use Rattle.ev_desugar.proofs.words.character.Goals as goal

pub returns-in-None : goal.returns-in-None
returns-in-None c = sym (no_quote c.args.spelling.now c.in-None.ensures.cases)
