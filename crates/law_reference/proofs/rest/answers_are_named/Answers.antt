use Rattle.law_reference.proofs.Reference.AnswerNames.{answers_named}
use Rattle.law_reference.proofs.rest.answers_are_named.Goals as goal

pub returns : goal.returns
returns c = answers_named
