use Rattle.law_read.proofs.ReadScripts.FramesOfNotes.{frames_are_notes}
use Rattle.law_read.proofs.frames.frames_are_of_their_notes.Goals as goal

pub returns : goal.returns
returns c = frames_are_notes
