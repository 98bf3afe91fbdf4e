use Rattle.law_frame.proofs.Heard.Laws.{lists_logged}
use Rattle.law_frame.proofs.hearing.lists_are_as_logged.Goals as goal

pub returns : goal.returns
returns c = lists_logged
