use Rattle.law_hostile_mirror.proofs.Gifts.{gifts_mirror}
use Rattle.law_hostile_mirror.proofs.gifts_mirror.Goals as goal

pub returns : goal.returns
returns c = gifts_mirror
