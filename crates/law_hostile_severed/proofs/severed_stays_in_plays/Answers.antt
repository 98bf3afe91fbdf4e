use Rattle.law_hostile_severed.proofs.Severed.{severed_stays_in_plays}
use Rattle.law_hostile_severed.proofs.severed_stays_in_plays.Goals as goal

pub returns : goal.returns
returns c = severed_stays_in_plays
