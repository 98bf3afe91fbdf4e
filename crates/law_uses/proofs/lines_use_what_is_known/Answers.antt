use Rattle.law_uses.proofs.KnownUses.Texts.{lines_use_what_is_known}
use Rattle.law_uses.proofs.lines_use_what_is_known.Goals as goal

pub returns : goal.returns
returns c = lines_use_what_is_known
