use Rattle.law_reading.proofs.Expansion.Tokens.{what_is_read_is_a_tree}
use Rattle.law_reading.proofs.spelled.what_is_read_is_a_tree.Goals as goal

pub returns : goal.returns
returns c = what_is_read_is_a_tree
