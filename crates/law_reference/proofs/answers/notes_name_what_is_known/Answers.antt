use Rattle.law_reference.proofs.Reference.FollowRuns.{notes_name_what_is_known}
use Rattle.law_reference.proofs.answers.notes_name_what_is_known.Goals as goal

pub returns : goal.returns
returns c = notes_name_what_is_known
