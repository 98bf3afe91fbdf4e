use Rattle.law_frame.proofs.Local.JoinedOpenings.{openings_so}
use Rattle.law_frame.proofs.whole.opening_turns_mirror.Goals as goal

pub returns : goal.returns
returns c = openings_so
