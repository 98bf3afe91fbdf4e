use Rattle.law_uses.proofs.KnownUses.Back.{calls_give_back_what_is_known}
use Rattle.law_uses.proofs.calls_give_back_what_is_known.Goals as goal

pub returns : goal.returns
returns c = calls_give_back_what_is_known
