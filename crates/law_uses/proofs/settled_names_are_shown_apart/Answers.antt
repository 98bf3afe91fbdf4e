use Rattle.law_uses.proofs.SettledApart.Settled.{settled_apart}
use Rattle.law_uses.proofs.settled_names_are_shown_apart.Goals as goal

pub returns : goal.returns
returns c = settled_apart
