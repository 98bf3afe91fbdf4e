use Rattle.law_play.proofs.Lawful.{honest_plays_have_their_texts}
use Rattle.law_play.proofs.honest_plays_have_their_texts.Goals as goal

pub returns : goal.returns
returns c = honest_plays_have_their_texts
