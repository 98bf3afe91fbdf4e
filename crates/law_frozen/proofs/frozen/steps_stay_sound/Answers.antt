use Rattle.law_frozen.proofs.FrozenSteps.{stays_sound}
use Rattle.law_frozen.proofs.Reach.{global_spots, local_spots}
use Rattle.def_machine.specs.Values.{naming, numbering}
use Rattle.law_frozen.proofs.frozen.steps_stay_sound.Goals as goal

pub returns : goal.returns
returns c = (λ word v. stays_sound (naming word v) (global_spots word v), λ word. stays_sound (numbering word) (local_spots word))
