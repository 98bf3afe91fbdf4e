use Rattle.law_text.proofs.Text.Rebuilt.{events_are_told}
use Rattle.law_text.proofs.histories.events_are_told.Goals as goal

pub returns : goal.returns
returns c = events_are_told
