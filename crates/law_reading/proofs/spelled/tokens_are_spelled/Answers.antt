use Rattle.law_reading.proofs.Expansion.Tokens.{tokens_are_spelled}
use Rattle.law_reading.proofs.spelled.tokens_are_spelled.Goals as goal

pub returns : goal.returns
returns c = tokens_are_spelled
