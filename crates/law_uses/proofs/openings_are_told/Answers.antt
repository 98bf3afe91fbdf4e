use Rattle.law_uses.proofs.Running.Facts.{openings_told}
use Rattle.law_uses.proofs.openings_are_told.Goals as goal

pub returns : goal.returns
returns c = openings_told
