use Rattle.law_uses.proofs.KnownUses.Whole.{runs_hold_uses}
use Rattle.law_uses.proofs.runs_hold_uses.Goals as goal

pub returns : goal.returns
returns c = runs_hold_uses
