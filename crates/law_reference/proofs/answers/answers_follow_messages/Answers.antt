use Rattle.law_reference.proofs.Reference.FollowRuns.{answers_follow_messages}
use Rattle.law_reference.proofs.answers.answers_follow_messages.Goals as goal

pub returns : goal.returns
returns c = answers_follow_messages
