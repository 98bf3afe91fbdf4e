use Rattle.law_lawful.proofs.Asked.{questions_logged}
use Rattle.law_lawful.proofs.questions_are_as_logged.Goals as goal

pub returns : goal.returns
returns c = questions_logged
