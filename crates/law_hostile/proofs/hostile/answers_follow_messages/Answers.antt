use Rattle.law_hostile.proofs.Answers.{answers_follow_messages}
use Rattle.law_hostile.proofs.hostile.answers_follow_messages.Goals as goal

pub returns : goal.returns
returns c = answers_follow_messages
