use Rattle.law_hostile_severed.proofs.Severed.{notices_break_in_plays}
use Rattle.law_hostile_severed.proofs.notices_break_in_plays.Goals as goal

pub returns : goal.returns
returns c = notices_break_in_plays
