use Rattle.law_reference.proofs.Reference.OnceLaws.{messages_come_before_answers}
use Rattle.law_reference.proofs.answers.messages_come_before_answers.Goals as goal

pub returns : goal.returns
returns c = messages_come_before_answers
