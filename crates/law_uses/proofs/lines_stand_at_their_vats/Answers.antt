use Rattle.law_uses.proofs.Uses.Texts.{lines_stand}
use Rattle.law_uses.proofs.lines_stand_at_their_vats.Goals as goal

pub returns : goal.returns
returns c = lines_stand
