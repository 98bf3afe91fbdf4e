use Rattle.law_frame.proofs.Frame.SourceLaws.{names_from_hosts}
use Rattle.law_frame.proofs.wire.names_come_from_their_hosts.Goals as goal

pub returns : goal.returns
returns c = names_from_hosts
