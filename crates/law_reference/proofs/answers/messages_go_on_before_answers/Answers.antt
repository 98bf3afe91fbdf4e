use Rattle.law_reference.proofs.Reference.OnceLaws.{messages_go_on_before_answers}
use Rattle.law_reference.proofs.answers.messages_go_on_before_answers.Goals as goal

pub returns : goal.returns
returns c = messages_go_on_before_answers
