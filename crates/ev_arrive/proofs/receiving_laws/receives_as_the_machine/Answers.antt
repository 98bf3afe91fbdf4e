use Rattle.ev_arrive.proofs.Receives.{receives_is}
use Rattle.ev_arrive.proofs.receiving_laws.receives_as_the_machine.Goals as goal

pub returns : goal.returns
returns c = λ ts key line s h n x c sight from see note tells lists good sees. receives_is ts key line s tells lists n x c sight see from note h good sees
