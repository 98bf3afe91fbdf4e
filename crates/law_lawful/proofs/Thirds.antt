-- A gift that is told twice in one frame passes as a plain name the second time.
use Rattle.std.proofs.Common.{refl}
use Rattle.def_machine.specs.Values.{opened_values}
use Rattle.def_run.specs.Connections.{opened_connections}
use Rattle.def_hostile.specs.Hostile.{read_op, newcomers, name_in}
use Rattle.law_lawful.specs.Lawful.{arguments_of, ThirdsAreNeeded}

pub thirds : ThirdsAreNeeded
unfolding read_op newcomers name_in arguments_of opened_connections opened_values
thirds play m = (_, refl, refl)
