use Rattle.law_trace.proofs.Told.Apart.{messages_named}
use Rattle.law_trace.proofs.messages_are_named.Goals as goal

pub returns : goal.returns
returns c = messages_named
