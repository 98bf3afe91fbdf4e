use Rattle.ev_arrive.proofs.Delivers.{message_is}
use Rattle.ev_arrive.proofs.laws.learns_messages_as_the_machine.Goals as goal

pub returns : goal.returns
returns c = λ ts key line s h n v x tells good. message_is ts key line s tells n v x h good
