use Rattle.law_judge.proofs.Spelled.{is_spelled}
use Rattle.law_judge.proofs.lawful_is_spelled.Goals as goal

pub returns : goal.returns
returns c = is_spelled
