use Rattle.law_frame.proofs.Frame.WireLaws.{notes_listless}
use Rattle.law_frame.proofs.wire.notes_hold_no_lists.Goals as goal

pub returns : goal.returns
returns c = notes_listless
