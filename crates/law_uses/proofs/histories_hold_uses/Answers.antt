use Rattle.law_uses.proofs.KnownUses.Whole.{histories_hold_uses}
use Rattle.law_uses.proofs.histories_hold_uses.Goals as goal

pub returns : goal.returns
returns c = histories_hold_uses
