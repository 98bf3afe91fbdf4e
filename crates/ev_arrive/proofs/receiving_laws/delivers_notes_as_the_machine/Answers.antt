use Rattle.ev_arrive.proofs.Arrives.{deliver_is}
use Rattle.ev_arrive.proofs.receiving_laws.delivers_notes_as_the_machine.Goals as goal

pub returns : goal.returns
returns c = λ ts key line s h n from m asks x verb ps tells lists good. deliver_is ts key line s tells lists n from m asks x verb ps h good
