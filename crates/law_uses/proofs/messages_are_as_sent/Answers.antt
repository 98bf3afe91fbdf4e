use Rattle.law_uses.proofs.Uses.Texts.{messages_are_as_sent}
use Rattle.law_uses.proofs.messages_are_as_sent.Goals as goal

pub returns : goal.returns
returns c = messages_are_as_sent
