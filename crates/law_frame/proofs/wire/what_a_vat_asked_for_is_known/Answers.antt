use Rattle.law_frame.proofs.Frame.WireLaws.{asked_for_known}
use Rattle.law_frame.proofs.wire.what_a_vat_asked_for_is_known.Goals as goal

pub returns : goal.returns
returns c = asked_for_known
