use Rattle.law_uses.proofs.ShownApart.Shown.{each_tells}
use Rattle.law_uses.proofs.each_known_gift_tells_its_provider.Goals as goal

pub returns : goal.returns
returns c = each_tells
