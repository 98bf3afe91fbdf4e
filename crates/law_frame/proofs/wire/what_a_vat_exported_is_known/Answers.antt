use Rattle.law_frame.proofs.Frame.WireLaws.{exported_known}
use Rattle.law_frame.proofs.wire.what_a_vat_exported_is_known.Goals as goal

pub returns : goal.returns
returns c = exported_known
