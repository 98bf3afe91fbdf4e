use Rattle.law_reference.proofs.Reference.AnswerWhole.{notes_bring_new_where_gifts_do}
use Rattle.law_reference.proofs.answers.notes_bring_new_where_gifts_do.Goals as goal

pub returns : goal.returns
returns c = notes_bring_new_where_gifts_do
