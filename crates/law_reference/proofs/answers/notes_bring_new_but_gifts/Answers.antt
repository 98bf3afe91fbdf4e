use Rattle.law_reference.proofs.Reference.SingleRuns.{notes_bring_new_but_gifts}
use Rattle.law_reference.proofs.answers.notes_bring_new_but_gifts.Goals as goal

pub returns : goal.returns
returns c = notes_bring_new_but_gifts
