use Rattle.law_frozen.proofs.Reach.{frozen_reach, global_spots, local_spots}
use Rattle.def_machine.specs.Values.{naming, numbering}
use Rattle.law_frozen.proofs.frozen.reach_is_frozen.Goals as goal

pub returns : goal.returns
returns c = (λ word v s h. frozen_reach (naming word v) (global_spots word v) s h, λ word s h. frozen_reach (numbering word) (local_spots word) s h)
