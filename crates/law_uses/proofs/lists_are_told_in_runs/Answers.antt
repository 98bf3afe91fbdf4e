use Rattle.law_uses.proofs.Uses.Texts.{lists_are_told}
use Rattle.law_uses.proofs.lists_are_told_in_runs.Goals as goal

pub returns : goal.returns
returns c = lists_are_told
