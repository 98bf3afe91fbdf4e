use Rattle.law_read.proofs.ReadUses.Held.{uses_hold}
use Rattle.law_read.proofs.texts_hold_uses.Goals as goal

pub returns : goal.returns
returns c = uses_hold
