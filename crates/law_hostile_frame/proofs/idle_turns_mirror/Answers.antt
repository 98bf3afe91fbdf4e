use Rattle.law_hostile_frame.proofs.Steps.{idle_turns_mirror}
use Rattle.law_hostile_frame.proofs.idle_turns_mirror.Goals as goal

pub returns : goal.returns
returns c = idle_turns_mirror
