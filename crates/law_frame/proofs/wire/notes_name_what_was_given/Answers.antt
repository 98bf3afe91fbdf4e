use Rattle.law_frame.proofs.Frame.GivenLaws.{notes_name_given}
use Rattle.law_frame.proofs.wire.notes_name_what_was_given.Goals as goal

pub returns : goal.returns
returns c = notes_name_given
