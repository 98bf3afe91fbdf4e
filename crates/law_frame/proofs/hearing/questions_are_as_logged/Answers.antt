use Rattle.law_frame.proofs.Heard.Questions.{questions_logged}
use Rattle.law_frame.proofs.hearing.questions_are_as_logged.Goals as goal

pub returns : goal.returns
returns c = questions_logged
