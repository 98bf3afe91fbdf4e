use Rattle.law_uses.proofs.Connectivity.RunStems.{messages_stem}
use Rattle.law_uses.proofs.message.messages_stem_from_sends.Goals as goal

pub returns : goal.returns
returns c = messages_stem
