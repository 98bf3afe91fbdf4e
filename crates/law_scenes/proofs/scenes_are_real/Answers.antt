use Rattle.law_scenes.proofs.Real.{scenes_are_real}
use Rattle.law_scenes.proofs.scenes_are_real.Goals as goal

pub returns : goal.returns
returns c = scenes_are_real
