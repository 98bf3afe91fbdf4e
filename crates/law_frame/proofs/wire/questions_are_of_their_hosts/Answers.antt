use Rattle.law_frame.proofs.Frame.WireLaws.{questions_hosted}
use Rattle.law_frame.proofs.wire.questions_are_of_their_hosts.Goals as goal

pub returns : goal.returns
returns c = questions_hosted
