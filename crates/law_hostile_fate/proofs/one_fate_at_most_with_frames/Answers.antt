use Rattle.law_hostile_fate.proofs.Ends.{one_fate_at_most}
use Rattle.law_hostile_fate.proofs.one_fate_at_most_with_frames.Goals as goal

pub returns : goal.returns
returns c = one_fate_at_most
