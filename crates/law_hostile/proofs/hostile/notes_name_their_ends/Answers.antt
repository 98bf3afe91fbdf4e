use Rattle.law_hostile.proofs.Ends.{notes_name_their_ends}
use Rattle.law_hostile.proofs.hostile.notes_name_their_ends.Goals as goal

pub returns : goal.returns
returns c = notes_name_their_ends
