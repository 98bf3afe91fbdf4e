use Rattle.law_machine.proofs.Natives.Natives.{range_has, compared_has, null_reply_has, asked_has}
use Rattle.law_machine.specs.Natives.Natives.{In}
use Rattle.law_machine.proofs.primitives_add_nothing.Goals as goal

pub returns : goal.returns
returns c = (λ set pl. (range_has (In set) pl, compared_has (In set) pl, null_reply_has (In set) pl, asked_has (In set) pl), λ set pl. (range_has (In set) pl, compared_has (In set) pl, null_reply_has (In set) pl, asked_has (In set) pl))
