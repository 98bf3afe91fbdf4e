use Rattle.law_order.proofs.Cuts.Shut.{cut_messages_doom}
use Rattle.law_order.proofs.cut.cut_messages_doom.Goals as goal

pub returns : goal.returns
returns c = cut_messages_doom
