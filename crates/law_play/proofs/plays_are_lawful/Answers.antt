use Rattle.law_play.proofs.Lawful.{plays_are_lawful}
use Rattle.law_play.proofs.plays_are_lawful.Goals as goal

pub returns : goal.returns
returns c = plays_are_lawful
