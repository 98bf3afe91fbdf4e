use Rattle.def_run.specs.Numbers.{Vats}
use Rattle.ev_world.specs.Standing.{IsWorld}
use Rattle.ev_world.proofs.Wholes.{halted_first, opened_then}
use Rattle.ev_world.proofs.world.World.go_on.Goals as goal

pub returns-in-Err-clause-went : goal.returns-in-Err-clause-went
returns-in-Err-clause-went c = λ S many read steady is_at. halted_first S c.in-Err.halted c.open_all.new.self (c.in-Err.ensures.opened S many steady is_at)

pub returns-clause-went : goal.returns-clause-went
returns-clause-went c = λ S many read steady is_at.
    opened_then S c.step_all.result (λ (w : Vats). IsWorld S w c.open_all.new.self) c.step_all.new.self (c.in_default.ensures.opened S many steady is_at)
    (λ w opened is_here. c.step_all.ensures.stepped S w many read steady opened is_here)
