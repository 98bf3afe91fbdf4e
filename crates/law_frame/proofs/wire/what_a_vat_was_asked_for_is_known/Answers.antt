use Rattle.law_frame.proofs.Frame.WireLaws.{was_asked_known}
use Rattle.law_frame.proofs.wire.what_a_vat_was_asked_for_is_known.Goals as goal

pub returns : goal.returns
returns c = was_asked_known
