use Rattle.ev_check_text.proofs.Once.{judged_once}
use Rattle.ev_check_text.proofs.laws.one_judgement.Goals as goal

pub returns : goal.returns
returns c = judged_once
