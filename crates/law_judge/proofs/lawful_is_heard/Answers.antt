use Rattle.law_judge.proofs.HeardNames.{is_heard}
use Rattle.law_judge.proofs.lawful_is_heard.Goals as goal

pub returns : goal.returns
returns c = is_heard
