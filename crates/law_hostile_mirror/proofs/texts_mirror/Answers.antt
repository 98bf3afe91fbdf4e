use Rattle.law_hostile_mirror.proofs.Plays.{texts_mirror}
use Rattle.law_hostile_mirror.proofs.texts_mirror.Goals as goal

pub returns : goal.returns
returns c = texts_mirror
