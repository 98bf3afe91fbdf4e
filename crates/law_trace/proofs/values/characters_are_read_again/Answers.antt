use Rattle.law_trace.proofs.Trace.CharactersAgain.{characters_again}
use Rattle.law_trace.proofs.values.characters_are_read_again.Goals as goal

pub returns : goal.returns
returns c = characters_again
