use Rattle.law_judge.proofs.HeardNames.{is_heard_in_numbers}
use Rattle.law_judge.proofs.lawful_is_heard_in_numbers.Goals as goal

pub returns : goal.returns
returns c = is_heard_in_numbers
