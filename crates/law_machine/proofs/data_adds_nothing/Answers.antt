use Rattle.law_machine.proofs.Natives.Natives.{data_has}
use Rattle.law_machine.specs.Natives.Natives.{In}
use Rattle.law_machine.proofs.data_adds_nothing.Goals as goal

pub returns : goal.returns
returns c = (λ set lists pl all. data_has (In set) pl lists all, λ set lists pl all. data_has (In set) pl lists all)
