use Rattle.law_hostile_mirror.proofs.Doings.{plays_have_one_text}
use Rattle.law_hostile_mirror.proofs.plays_have_one_text.Goals as goal

pub returns : goal.returns
returns c = plays_have_one_text
