use Rattle.ev_arrive.specs.Bringing.{part}
use Rattle.ev_arrive.proofs.Hears.{part_is}
use Rattle.ev_arrive.proofs.receiving_laws.learns_as_the_machine.Goals as goal

pub returns : goal.returns
returns c = λ ts key line s h n from b tells lists good. part_is ts key line s tells lists n 100 from (part b) h good
